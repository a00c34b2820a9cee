-- When reading and counting give one of the four refusals of a file's layout.
-- Assumes nothing.
use Rattle.std.specs.Prelude.{Result}
use Rattle.files.specs.declared.Sizes.{Sizes}
use Rattle.refusals.specs.Refusals.{and_then}
use Rattle.std.specs.Prelude.{Ok, Err}
use Rattle.refusals.specs.Refusals.{Checked}
use Prim.Native.Nat.{ℕ}
use mathlib.Core.Path.{◌≡◌, sym, ◌∙◌}
use mathlib.Core.List.{List}
use mathlib.Core.Logic.{◌↔◌}
use lib.ListN.{length}
use Rattle.refusals.specs.declared.Refusal.{Refusal}
use Rattle.files.specs.Layout.{counts_family}
use Rattle.files.specs.Files.{file_checked, Read}
use Rattle.files.specs.Causes.{Laid, Cause, OfLayout}
use Rattle.files.proofs.Held.{refused}
use Rattle.files.proofs.Refused.{given_exactly, read_exactly, laid_exactly}
use Rattle.reports.specs.declared.Counts.{Counts}
use Rattle.reports.specs.Counts.{Count, counts_in}

-- counting refuses exactly where the file's check does
count_refused : (f : List ℕ) {a : Result Counts Refusal} → Count f a → (r : Refusal) → (a ≡ Err r) ↔ (file_checked counts_family f ≡ Err r)
count_refused f call r =
    let by = go (file_checked counts_family f) (counts_in f) in
    (λ e. by.0 (sym call ∙ e), λ e. call ∙ by.1 e)
  where
    go : (c : Checked) (n : Counts) → (and_then c (Ok n) ≡ Err r) ↔ (c ≡ Err r)
    go (Ok tt) n = (λ e. absurd (cc), λ e. absurd (cc))
    go (Err q) n = (λ e. cc, λ e. cc)

-- none of the four is given of a file that is laid out well, and of no other
pub none_given : (f : List ℕ) {a : Result Counts Refusal} → Count f a → Laid counts_family f ↔ ((r : Refusal) → OfLayout r → a ≡ Err r → ⊥)
none_given f call =
    let exactly = laid_exactly counts_family f in
    let by = count_refused f call in
    (λ l r o e. exactly.0 l r o ((by r).0 e), λ none. exactly.1 (λ r o e. none r o ((by r).1 e)))

-- each is given for its cause
module _ (f : List ℕ) (r : Refusal) (four : OfLayout r) where
  pub read_gives : {s s' t t' : List ℕ} {a : Result Sizes Refusal} → Read f s s' t t' a → (a ≡ Err r) ↔ Cause counts_family f r
  read_gives {s = s} {t = t} call =
      let exactly = read_exactly counts_family f (length s) (length t) r four in
      (λ e. exactly.0 (refused call e), λ cause. rw (exactly.1 cause) at call.answer)

  pub count_gives : {a : Result Counts Refusal} → Count f a → (a ≡ Err r) ↔ Cause counts_family f r
  count_gives call =
      let exactly = given_exactly counts_family f r four in
      let by = count_refused f call r in
      (λ e. exactly.0 (by.0 e), λ cause. by.1 (exactly.1 cause))
