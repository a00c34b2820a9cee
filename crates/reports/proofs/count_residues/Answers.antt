use Rattle.std.proofs.Common.{ℕ, ◌+◌, arith, ◌≡◌, refl, sym, ap, ◌∙◌, ℤ, to_z, of_z, w64, length, get_or, not, ◌&&◌, eqb}
use Rattle.std.specs.Int.{int_signum}
use Rattle.theory.specs.Lists.{bit}
use Rattle.reports.specs.declared.Counts.{Counts}
use Rattle.reports.specs.Counts.{is_change, kind_of, counts_of, above, below}
use Rattle.reports.specs.Private.{with_residue}
use Rattle.theory.proofs.Lists.{bit_lt}
use Rattle.reports.proofs.Sums.{sum_none, sum_more}
use Rattle.reports.proofs.Residues.{read, sign_kind, sign_sign, above_difference, below_difference}
use Rattle.reports.proofs.Spikes.{kind_before, starts_at, runs_by_starts, before-next}
use Rattle.reports.proofs.count_residues.Invariants.{residue, kinds}
use Rattle.reports.proofs.count_residues.Goals as goal

with_same : (before : ℤ) (counts : Counts) {r q : ℤ} → r ≡ q → with_residue before r counts ≡ with_residue before q counts
with_same before counts e = ap (λ (r : ℤ). with_residue before r counts) e

pub loop-x-init : goal.loop-x-init
unfolding kind_before kind_of is_change
loop-x-init c = (
  record {
    changed_is = sym (sum_none _);
    spikes_is = sym (sum_none _);
    up_is = sym (sum_none _);
    down_is = sym (sum_none _);
    few = omega arith;
    low = omega arith;
  },
  refl,
  refl,
  refl,
)

pub loop-x-preserved : goal.loop-x-preserved
unfolding starts_at
loop-x-preserved c =
    let s = c.args.scan.now in
    let t = c.args.cleaned.now in
    let x = c.loop-x.x in
    let sums = c.loop-x.invariant.0 in
    let raw = get_or s x 0 in
    let value = get_or t x 0 in
    let here : to_z w64 (of_z w64 c.residue.result) ≡ residue s t x = read c.residue.result c.residue.type_inv ∙ c.residue.ensures in
    let more = c.add-before.ensures.counts ∙ with_same _ c.loop-x.counts here in
    let sign : to_z w64 (of_z w64 c.add-before.result) ≡ int_signum (residue s t x) =
    read c.add-before.result c.add-before.type_inv ∙ c.add-before.ensures.sign ∙ ap int_signum here in
    let old = c.loop-x.counts in
    let changes : c.add-before.new.self.changed ≡ old.changed + bit (is_change (residue s t x)) = ap (λ (k : Counts). k.changed) more in
    let starts : c.add-before.new.self.spikes ≡ old.spikes + bit (starts_at (kinds s t) x) =
    ap (λ (k : Counts). k.spikes) more ∙ ap (λ (k : ℕ). old.spikes + bit (not (eqb (kinds s t x) 0) && not (eqb (kinds s t x) k))) c.loop-x.invariant.3 in
    let ups : c.add-before.new.self.up ≡ old.up + above (residue s t x) = ap (λ (k : Counts). k.up) more in
    let downs : c.add-before.new.self.down ≡ old.down + below (residue s t x) = ap (λ (k : Counts). k.down) more in
    let high = above_difference raw value in
    let low = below_difference raw value in
    let change = bit_lt (is_change (residue s t x)) in
    let start = bit_lt (starts_at (kinds s t) x) in
    let fits = c.type_inv.scan x in (
      record {
        changed_is = changes ∙ ap (λ (k : ℕ). k + bit (is_change (residue s t x))) sums.changed_is ∙ sym (sum_more _ x);
        spikes_is = starts ∙ ap (λ (k : ℕ). k + bit (starts_at (kinds s t) x)) sums.spikes_is ∙ sym (sum_more _ x);
        up_is = ups ∙ ap (λ (k : ℕ). k + above (residue s t x)) sums.up_is ∙ sym (sum_more _ x);
        down_is = downs ∙ ap (λ (k : ℕ). k + below (residue s t x)) sums.down_is ∙ sym (sum_more _ x);
        few = (omega (arith, changes, change, sums.few), omega (arith, starts, start, sums.few));
        low = (omega (arith, ups, high, sums.low), omega (arith, downs, low, sums.low));
      },
      ap (λ (k : Counts). k.samples) more ∙ c.loop-x.invariant.1,
      ap int_signum sign ∙ sign_sign (residue s t x) ∙ sym sign,
      ap kind_of sign ∙ sign_kind (residue s t x) ∙ sym (before-next (kinds s t) x),
    )

pub returns : goal.returns
unfolding counts_of
returns c =
    let s = c.args.scan.now in
    let t = c.args.cleaned.now in
    let sums = c.loop-x.invariant.0 in
    let n = c.loop-x.x in
    let done : n ≡ length s = omega arith in
    let spikes = sums.spikes_is ∙ sym (runs_by_starts (kinds s t) n) in
    let samples : c.loop-x.counts.samples ≡ n = omega arith in
    rw (← done) (λ i. record {
      samples = samples i;
      changed = sums.changed_is i;
      spikes = spikes i;
      up = sums.up_is i;
      down = sums.down_is i;
    })
