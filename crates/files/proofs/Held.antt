-- What the record of an accepted read, and of a refused one, tells its caller.
-- Assumes nothing.
use Rattle.std.specs.Prelude.{Result, Ok, Err}
use Rattle.refusals.specs.Refusals.{Checked}
use mathlib.Core.Path.{◌≡◌, sym, ap, ◌∙◌}
use mathlib.Core.List.{List}
use Prim.Native.Nat.{ℕ, ◌≤◌}
use native.Mathlib.Omega.{arith}
use lib.ListN.{length, take, length-take}
use lib.Seq.{take_at}
use Rattle.refusals.specs.Refusals.{written}
use Rattle.refusals.specs.declared.Refusal.{Refusal}
use Rattle.files.specs.Layout.{counts_family, file_samples, file_terms}
use Rattle.files.specs.declared.Sizes.{Sizes}
use Rattle.files.specs.Files.{sizes, read_checked, Read}
use Rattle.refusals.proofs.Checks.{done_fine, refused_by}
use Rattle.files.proofs.Accepts.{Readable, fine_read}

-- accepted: the file can be read, and the slices begin with what it holds
pub record Held (f samples terms : List ℕ) (m n : ℕ) : Type 0 where
  pub readable : Readable counts_family f
  pub samples_held : take m samples ≡ file_samples f
  pub terms_held : take n terms ≡ file_terms f
  pub samples_fit : m ≤ length samples
  pub terms_fit : n ≤ length terms

-- a slice begins with the n elements that were given
given : {c : Checked} (new old out : List ℕ) (n : ℕ) → c ≡ Ok tt → length new ≡ n → out ≡ written c new old
    → (take n out ≡ new) × (n ≤ length out)
given new old out n e few h =
    let same : take n out ≡ new = ap (take n) (h ∙ ap (λ (c : Checked). written c new old) e) ∙ take_at new _ n few in
    (same, omega (arith, length-take n out, ap length same))

module _ {f samples samples' terms terms' : List ℕ} {a : Result Sizes Refusal} (r : Read f samples samples' terms terms' a) where
  pub held : {m n : ℕ} → a ≡ Ok (sizes m n) → Held f samples' terms' m n
  held {m} {n} told =
      let d = done_fine (read_checked counts_family f (length samples) (length terms)) (sizes (length (file_samples f)) (length (file_terms f))) (sizes m n) (sym told ∙ r.answer) in
      let e = d.0 in
      let samples_in = given (file_samples f) samples samples' m e (ap (λ (z : Sizes). z.samples) (sym d.1)) r.samples_out in
      let terms_in = given (file_terms f) terms terms' n e (ap (λ (z : Sizes). z.terms) (sym d.1)) r.terms_out in
      record {
        readable = (fine_read counts_family f (length samples) (length terms) e).0;
        samples_held = samples_in.0;
        terms_held = terms_in.0;
        samples_fit = samples_in.1;
        terms_fit = terms_in.1;
      }

  -- refused: by the order of refusals
  pub refused : {q : Refusal} → a ≡ Err q → read_checked counts_family f (length samples) (length terms) ≡ Err q
  refused {q} told = refused_by (read_checked counts_family f (length samples) (length terms)) q _ (sym told ∙ r.answer)
