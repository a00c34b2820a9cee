-- What a file can be refused for: one of the four of its layout for its cause, or 7, 8 or 9 of what it holds. So each of the four is given
-- exactly when its own condition holds and none before it, and none is given exactly when the file is laid out well. Over the family.
-- Assumes nothing.
use Rattle.std.specs.Prelude.{IfErr, Ok, Err}
use Rattle.refusals.specs.Numbers.{notice_of}
use Rattle.refusals.specs.declared.Refusal.TheVariants.{TermsLent, BadTerm, TermCount, ScanLength, OutputLength, FileLength, Mark, TermDistance, SampleDistance}
use Rattle.refusals.specs.Refusals.{Checked}
use Prim.Native.Nat.{ℕ, ◌<◌}
use native.Mathlib.Omega.{arith}
use mathlib.Core.Path.{◌≡◌, sym, ◌∙◌}
use mathlib.Core.Bool.{Bool, true, false, ◌||◌}
use mathlib.Core.List.{List}
use mathlib.Core.Logic.{◌⊎◌, inl, inr, ◌↔◌}
use lib.Dec.{eqb, ltb}
use lib.ListN.{length}
use Rattle.limits.specs.Limits.{width, most_terms}
use Rattle.theory.specs.Lists.{first, any_below}
use Rattle.theory.specs.Forms.{is_bad}
use Rattle.refusals.specs.declared.Refusal.{Refusal}
use Rattle.refusals.specs.Refusals.{refuse_if, and_then}
use Rattle.refusals.specs.Shared.{room_checked, scan_checked}
use Rattle.forms.specs.Check.{terms_checked, form_checked}
use Rattle.files.specs.declared.Family.{Family}
use Rattle.files.specs.Layout.{samples_field, terms_field, mark_field, term_count, sample_count, file_terms}
use Rattle.files.specs.Files.{layout_checked, file_checked, slices_checked, read_checked}
use Rattle.files.specs.Causes.{Laid, Cause, by_length, by_mark, by_terms, by_samples, OfLayout}
use Rattle.files.proofs.Layouts.{well_laid, laid_well}
use Rattle.files.proofs.Causes.{cause_found, cause_refused, cause_numbers, fine_or_cause}

module _ (P : Refusal → Type 0) where
  -- where a check refuses, the claim holds of its refusal
  abbrev pub IfRefused : Checked → Type 0
  IfRefused c = IfErr c P

  if_refused : (b : Bool) (r : Refusal) → P r → IfRefused (refuse_if b r)
  if_refused true r h = h
  if_refused false r h = tt

  or_refused : (a b : Checked) → IfRefused a → IfRefused b → IfRefused (and_then a b)
  or_refused (Ok tt) b h k = k
  or_refused (Err r) b h k = h

  module _ (family : Family) (f : List ℕ) where
    -- a claim holds of a file's refusal where it holds of one that has a cause, of 7 at the first bad term, of 8 at the number of terms and
    -- of 9 at the number of samples
    pub refused_by_cause : ((r : Refusal) → Cause family f r → P r)
        → P (BadTerm (first (is_bad width (file_terms f)) (length (file_terms f)))) → P (TermCount (length (file_terms f)))
        → P (ScanLength (sample_count family f)) → IfRefused (file_checked family f)
    unfolding file_checked form_checked terms_checked scan_checked
    refused_by_cause caused bad many samples = go (fine_or_cause family f)
      where
        go : (layout_checked family f ≡ Ok tt) ⊎ ((r : Refusal) × Cause family f r) → IfRefused (file_checked family f)
        go (inl fine) =
            let ts = file_terms f in
            let m = length ts in
            let n = sample_count family f in
            rw fine
            (or_refused (form_checked width ts) _
            (or_refused (terms_checked width ts) _ (if_refused (any_below (is_bad width ts) m) (BadTerm (first (is_bad width ts) m)) bad)
            (if_refused (ltb most_terms m) (TermCount m) many))
            (if_refused (eqb n 0 || ltb family.most n) (ScanLength n) samples))
        go (inr (r, cause)) = rw (cause_refused family f cause) (caused r cause)

    -- the same by the seven numbers, in the order in which they are tested
    pub file_refused : P (FileLength (length f)) → P (Mark (mark_field f)) → P (TermDistance (terms_field f)) → P (SampleDistance (samples_field f))
        → P (BadTerm (first (is_bad width (file_terms f)) (length (file_terms f)))) → P (TermCount (length (file_terms f)))
        → P (ScanLength (sample_count family f)) → IfRefused (file_checked family f)
    file_refused size mark terms samples = refused_by_cause caused
      where
        caused : (r : Refusal) → Cause family f r → P r
        caused _ (by_length _) = size
        caused _ (by_mark _ _) = mark
        caused _ (by_terms _ _ _) = terms
        caused _ (by_samples _ _ _ _) = samples

module _ (family : Family) (f : List ℕ) where
  -- a refusal under one of the four has its cause
  abbrev Caused : Refusal → Type 0
  Caused r = OfLayout r → Cause family f r

  told : (c : Checked) (r : Refusal) → IfRefused Caused c → c ≡ Err r → Caused r
  told c r h e = rw e at h

  other : {r : Refusal} → (notice_of r).number < 15 → Caused r
  other low o = absurd (omega (arith, low, o.0))

  file_caused : IfRefused Caused (file_checked family f)
  file_caused = refused_by_cause Caused family f (λ r cause o. cause) (other (omega arith)) (other (omega arith)) (other (omega arith))

  -- each of the four is given, at its place, exactly when its own condition holds and none before it
  pub given_exactly : (r : Refusal) → OfLayout r → (file_checked family f ≡ Err r) ↔ Cause family f r
  given_exactly r o = (λ e. told (file_checked family f) r file_caused e o, cause_refused family f)

  -- by a read too, whatever is lent: 6 and 10 are none of them, and come later
  pub read_exactly : (samples terms : ℕ) (r : Refusal) → OfLayout r → (read_checked family f samples terms ≡ Err r) ↔ Cause family f r
  unfolding read_checked slices_checked room_checked
  read_exactly samples terms r o = (λ e. told (read_checked family f samples terms) r caused e o, λ cause. rw (cause_refused family f cause))
    where
      caused : IfRefused Caused (read_checked family f samples terms)
      caused =
          let m = term_count f in
          let n = sample_count family f in
          or_refused Caused (file_checked family f) _ file_caused
          (or_refused Caused (room_checked m terms) _ (if_refused Caused (ltb terms m) (TermsLent m) (other (omega arith)))
          (if_refused Caused (ltb samples n) (OutputLength n) (other (omega arith))))

  -- a file is laid out well exactly when none of the four is given
  pub laid_exactly : Laid family f ↔ ((r : Refusal) → OfLayout r → file_checked family f ≡ Err r → ⊥)
  laid_exactly = (none, λ free. laid free (fine_or_cause family f))
    where
      none : Laid family f → (r : Refusal) → OfLayout r → file_checked family f ≡ Err r → ⊥
      none l r o e =
          let both : ◌≡◌ {A = Checked} (Err r) (Ok tt) = sym (cause_found family f ((given_exactly r o).0 e)) ∙ laid_well family f l in
          absurd (cc)

      laid : ((r : Refusal) → OfLayout r → file_checked family f ≡ Err r → ⊥)
          → (layout_checked family f ≡ Ok tt) ⊎ ((r : Refusal) × Cause family f r) → Laid family f
      laid free (inl fine) = well_laid family f fine
      laid free (inr (r, cause)) = absurd (free r (cause_numbers family f cause) (cause_refused family f cause))
