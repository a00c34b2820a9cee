use Rattle.std.proofs.Common.{◌<◌, arith, ◌≡◌, sym, ap, ◌∙◌, true, length}
use Rattle.limits.specs.Limits.{patterns}
use Rattle.theory.specs.Lists.{bit}
use Rattle.theory.specs.Forms.{minimal, form_of}
use Rattle.theory.specs.Tables.{table_at}
use Rattle.tables.specs.Tables.{form_in}
use Rattle.theory.proofs.Keeps.{kept, kept_none, kept-length, kept_more, kept_room}
use Rattle.tables.proofs.Steady.fill_terms.Goals as goal

pub loop-v-init : goal.loop-v-init
loop-v-init c = (simp kept_none, simp kept_none)

pub put-n-requires : goal.put-n-requires
unfolding form_in form_of kept
put-n-requires c =
    let p = minimal (table_at c.args.self.now.table.now) in
    (λ e. omega (arith, kept_room p c.loop-v.v patterns (omega arith) (sym c.is_term.ensures ∙ e)), omega arith)

pub loop-v-preserved : goal.loop-v-preserved
unfolding form_in form_of kept
loop-v-preserved c =
    let p = minimal (table_at c.args.self.now.table.now) in
    let v = c.loop-v.v in
    let term = c.is_term in
    let one : bit term.result ≡ bit (p v) = ap bit term.ensures in
    let room : term.result ≡ true → length (kept p v) < length c.args.terms.now =
    λ e. omega (arith, kept_room p v patterns (omega arith) (sym term.ensures ∙ e)) in (
      omega (arith, c.put-n.ensures.value, kept-length p v),
      rw (c.put-n.ensures.terms_after, c.loop-v.invariant.1, c.loop-v.invariant.0)
          (kept_more p c.args.terms.now v term.result (sym term.ensures) room),
    )

pub returns-clause-value : goal.returns-clause-value
unfolding form_in form_of kept
returns-clause-value c =
    let full : c.loop-v.v ≡ patterns = omega arith in
    c.loop-v.invariant.0 ∙ rw full

pub returns-clause-terms_after : goal.returns-clause-terms_after
unfolding form_in form_of kept
returns-clause-terms_after c =
    let full : c.loop-v.v ≡ patterns = omega arith in
    c.loop-v.invariant.1 ∙ rw full
