-- `reports::Counts::add` meets its contract. Assumes nothing.
use Rattle.std.proofs.Common.{ℕ, ◌+◌, ◌≡◌, ◌∙◌, ap, ap₂, sym, not, ◌&&◌, eqb, ℤ, pos, unsigned_abs, to_z-of_z}
use Rattle.std.specs.Int.{int_signum, int_max, int_min}
use Rattle.theory.specs.Lists.{bit}
use Rattle.reports.specs.Counts.{kind_of}
use Rattle.reports.proofs.Residues.{read, sign_kind, sign_none, sign_sign, change_kind, byte_bit, above_max, below_min}
use Rattle.reports.proofs.Counts.add.Goals as goal
use Rattle.reports.proofs.Counts.add.Goals.{After-signum-sign}

sign_is : (c : After-signum-sign) → c.signum-sign.result ≡ int_signum c.args.residue
sign_is c = c.signum-sign.ensures.value ∙ ap int_signum (to_z-of_z c.ranges.residue)

signed : (c : After-signum-sign) → int_signum c.signum-sign.result ≡ c.signum-sign.result
signed c = ap int_signum (sign_is c) ∙ sign_sign c.args.residue ∙ sym (sign_is c)

pub starts_run-requires : goal.starts_run-requires
starts_run-requires c =
    (rw (read c.signum-sign.result c.signum-sign.type_inv) (signed (goal.at.starts_run-requires c).After-signum-sign), rw (to_z-of_z c.ranges.before) c.requires.signed)

pub returns-clause-counts : goal.returns-clause-counts
returns-clause-counts c =
    let a = c.args in
    let old = a.self.now in
    let r = a.residue in
    let at = (goal.at.returns-clause-counts c).After-signum-sign in
    let kind : kind_of c.signum-sign.result ≡ kind_of r = ap kind_of (sign_is at) ∙ sign_kind r in
    let has = ap not (sign_none c.signum-sign.result (signed at)) ∙ ap (λ (k : ℕ). not (eqb k 0)) kind ∙ sym (change_kind r) in
    let changed = c.from.ensures ∙ byte_bit _ ∙ ap bit has in
    let here = ap kind_of (read c.signum-sign.result c.signum-sign.type_inv) ∙ kind in
    let before = ap kind_of (to_z-of_z c.ranges.before) in
    let starts = c.starts_run.ensures ∙ ap₂ (λ (k b : ℕ). not (eqb k 0) && not (eqb k b)) here before in
    let spikes = c.from-2.ensures ∙ byte_bit _ ∙ ap bit starts in
    let back = to_z-of_z c.ranges.residue in
    let high : c.max.result ≡ int_max r (pos 0) = c.max.ensures.value ∙ ap (λ (z : ℤ). int_max z (pos 0)) back in
    let low : c.min.result ≡ int_min r (pos 0) = c.min.ensures.value ∙ ap (λ (z : ℤ). int_min z (pos 0)) back in
    let up = c.unsigned_abs.ensures.value ∙ ap unsigned_abs (read c.max.result c.max.type_inv ∙ high) ∙ above_max r in
    let down = c.unsigned_abs-2.ensures.value ∙ ap unsigned_abs (read c.min.result c.min.type_inv ∙ low) ∙ below_min r in
    λ i. record {
      samples = old.samples;
      changed = old.changed + changed i;
      spikes = old.spikes + spikes i;
      up = old.up + up i;
      down = old.down + down i;
    }
