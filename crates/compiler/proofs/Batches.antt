-- A batch: what is read off an accepted run on the scan that shows its patterns is the recipe's truth table there; the batches one after
-- the other are the whole table.
-- Assumes nothing.
use Rattle.std.specs.Prelude.{Result, Ok}
use Rattle.refusals.specs.declared.Refusal.{Refusal}
use Prim.Native.Nat.{ℕ, suc, ◌+◌, ◌-◌, ◌*◌, ◌/◌, ◌%◌, ◌≤◌, ◌<◌}
use native.Mathlib.Omega.{arith}
use mathlib.Core.Path.{◌≡◌, sym, ap, ap₂, ◌∙◌}
use mathlib.Core.Bool.{Bool}
use mathlib.Core.List.{List, ◌++◌}
use lib.Dec.{leb}
use lib.IntN.{pos}
use lib.ListN.{length, take}
use borrow.Rule.Slice.PartMut.{mid_of, put_mid, Post-is}
use Rattle.limits.specs.Limits.{reach, width, patterns, byte_bits, most_samples}
use Rattle.theory.specs.Lists.{bit, tab}
use Rattle.theory.specs.Sets.{has}
use Rattle.theory.specs.Orders.{counts}
use Rattle.theory.specs.Tables.{table_of}
use Rattle.theory.specs.Signals.{held, endless, window, wide}
use Rattle.theory.proofs.Plans.{meaning}
use Rattle.theory.proofs.Lists.{length-tab, get_or-tab, tab_cong}
use Rattle.theory.proofs.Sets.{gather_cong}
use Rattle.theory.proofs.Fills.{Filled}
use Rattle.theory.proofs.Signals.{window_fair}
use Rattle.refusals.proofs.Checks.{written_whole}
use Rattle.refusals.proofs.Shared.{fine_scan, fine_lent}
use Rattle.tables.proofs.Bytes.{byte_of, table_cong}
use Rattle.windows.proofs.Columns.{position_is}
use Rattle.recipes.specs.Judge.{recipe_checked}
use Rattle.recipes.specs.Meaning.{value_at, truth_of}
use Rattle.recipes.proofs.Plans.{plan_of, value_plan, truth_plan}
use Rattle.recipes.proofs.Accepted.{plan_fits}
use Rattle.rows.proofs.Parts.{mid_length}
use Rattle.runner.specs.Run.{ran, recipe_run_checked, Run}
use Rattle.runner.proofs.Pieces.{filled_piece}
use Rattle.compiler.specs.Private.{sample_of, sample_at, pattern_scan, middle_of, Batch}
use Rattle.compiler.proofs.Patterns.{showing_all, middle_truth}

-- ---- an accepted run fills its slice

ran-length : (r s : List ℕ) → length (ran held r s) ≡ length s
unfolding ran
ran-length r s = length-tab (length s) _

pub run_fills : (r s old new : List ℕ) (a : Result ℕ Refusal) → recipe_checked r ≡ Ok tt → 0 < length s → length s ≤ most_samples → length old ≡ length s
    → Run r s old new a → new ≡ ran held r s
unfolding recipe_run_checked
run_fills r s old new a fine nonempty short same run =
    let accepted : recipe_run_checked r s (length old) ≡ Ok tt =
    rw (fine, fine_scan most_samples (length s) nonempty short, fine_lent (length s) (length old) same) in
    run.out ∙ written_whole (ran held r s) old accepted (omega (arith, ran-length r s))

-- ---- a list filled part by part

-- the part of a list from at to next was lent, and is back with what the rule gives there
part_filled : {f : ℕ → ℕ} {old new : List ℕ} {at : ℕ} → Filled f old new at → (next : ℕ) (g : ℕ → ℕ) (block : List ℕ) → at < next
    → next ≤ length old → ((j : ℕ) → j < next - at → g j ≡ f (at + j)) → block ≡ tab (length (mid_of at (next - at) new)) g
    → Filled f old (put_mid at (next - at) new block) next
part_filled {f} {old} {new} {at} filled next g block more most rule e =
    let long : length (mid_of at (next - at) new) ≡ next - at = mid_length at (next - at) new (omega (arith, filled.same)) in
    filled_piece filled next _ more most
    (ap₂ (λ (b c : List ℕ). take at new ++ (b ++ c))
    (e ∙ ap (λ (m : ℕ). tab m g) long ∙ tab_cong (next - at) _ _ rule)
    (Post-is at next new (omega arith)))

-- pattern i is shown
pub pattern_filled : (first i : ℕ) {old new : List ℕ} {at : ℕ} → Filled (sample_at first) old new at → at ≡ i * width → (block : List ℕ)
    → at + width ≤ length old → block ≡ tab (length (mid_of at (at + width - at) new)) (sample_of (first + i))
    → Filled (sample_at first) old (put_mid at (at + width - at) new block) (at + width)
pattern_filled first i {old} {new} {at} filled place block most e =
    part_filled filled (at + width) _ block (omega arith) most
    (λ j l.
    let v : i ≡ (at + j) / width = omega arith in
    let k : j ≡ (at + j) % width = omega arith in
    ap₂ (λ (q r : ℕ). sample_of (first + q) r) v k)
    e

-- ---- the table of a batch

module _ (first n : ℕ) where
  scan_length : length (pattern_scan first n) ≡ n
  scan_length = length-tab n _

  -- the scan goes by the window's columns
  by_columns : pattern_scan first n ≡ showing_all window window_fair first n
  unfolding showing_all window wide
  by_columns = tab_cong n _ _ (λ j l. ap (λ (i : ℕ). bit (has (first + j / width) i)) (position_is (j % width) (omega arith)))

  read_truth : (r : List ℕ) → recipe_checked r ≡ Ok tt → (v : ℕ) → suc v * width ≤ n → first + v < patterns
      → middle_of (ran held r (pattern_scan first n)) v ≡ truth_of r (first + v)
  unfolding middle_of ran wide window
  read_truth r fine v l b =
      let s = pattern_scan first n in
      let x = v * width + reach in
      ap (leb 1) (get_or-tab 0 (length s) (value_at held r s) x (omega (arith, scan_length)) ∙ value_plan held r s x)
      ∙ ap (λ (g : List ℕ). leb 1 (meaning counts (plan_of r) (endless 0 held g) (pos (v * width + reach)))) by_columns
      ∙ middle_truth window window_fair first n held v l (plan_of r) (plan_fits r fine) b
      ∙ sym (truth_plan r (first + v))

-- what is read off a run on the scan of a batch
pub batch_read : (r scan old bytes : List ℕ) (first : ℕ) → Batch r scan old bytes first → (shown out new : List ℕ) (a : Result ℕ Refusal)
    → shown ≡ pattern_scan first (length scan) → Run r shown old out a → new ≡ table_of (length bytes) (middle_of out)
    → new ≡ table_of (length bytes) (λ v. truth_of r (first + v))
batch_read r scan old bytes first ok shown out new a shows run read =
    let long : length shown ≡ length scan = ap length shows ∙ scan_length first (length scan) in
    let fills : out ≡ ran held r (pattern_scan first (length scan)) =
    run_fills r shown old out a ok.fine (omega arith) (omega arith) (ok.lent ∙ sym long) run ∙ ap (ran held r) shows in
    read
    ∙ ap (λ (o : List ℕ). table_of (length bytes) (middle_of o)) fills
    ∙ table_cong (length bytes) _ _ (λ v l. read_truth first (length scan) r ok.fine v (omega arith) (omega arith))

-- ---- the batches one after the other

-- the batch from byte at to byte next is written
pub batch_filled : (f : ℕ → Bool) {old new : List ℕ} {at : ℕ} → Filled (byte_of f) old new at → (next : ℕ) (block : List ℕ) → at < next
    → next ≤ length old → block ≡ table_of (length (mid_of at (next - at) new)) (λ v. f (byte_bits * at + v))
    → Filled (byte_of f) old (put_mid at (next - at) new block) next
unfolding table_of
batch_filled f {old} {new} {at} filled next block more most e = part_filled filled next _ block more most (λ j l. byte j) e
  where
    byte : (j : ℕ) → byte_of (λ v. f (byte_bits * at + v)) j ≡ byte_of f (at + j)
    byte j =
        gather_cong byte_bits _ _ (λ i k. let q : byte_bits * at + (byte_bits * j + i) ≡ byte_bits * (at + j) + i = omega arith in ap f q)
