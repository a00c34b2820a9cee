-- What an accepted read and an accepted write tell, and that they are accepted where that holds. Over the family.
-- Assumes nothing.
use Rattle.std.specs.Prelude.{Ok}
use mathlib.Core.Path.{◌≡◌}
use mathlib.Core.List.{List}
use Prim.Native.Nat.{ℕ, ◌≤◌}
use lib.ListN.{length}
use borrow.Author.Tests.{ltb-false, le-ltb}
use Rattle.limits.specs.Limits.{width}
use Rattle.refusals.specs.Shared.{room_checked, scan_checked}
use Rattle.refusals.proofs.Checks.{refuse_no, and_then_fine}
use Rattle.refusals.proofs.Shared.{room_fine, fine_room, scan_fine, fine_scan, lent_fine, fine_lent}
use Rattle.forms.specs.Check.{form_checked}
use Rattle.files.specs.declared.Family.{Family}
use Rattle.files.specs.Layout.{file_length, term_count, sample_count, file_terms}
use Rattle.files.specs.Files.{layout_checked, file_checked, slices_checked, read_checked, write_checked}
use Rattle.files.specs.Causes.{Laid}
use Rattle.files.proofs.Layouts.{well_laid, laid_well}

module _ (family : Family) where
  -- ---- a file that can be read

  pub record Readable (f : List ℕ) : Type 0 where
    pub laid : Laid family f
    pub form : form_checked width (file_terms f) ≡ Ok tt
    pub nonempty : 1 ≤ sample_count family f
    pub short : sample_count family f ≤ family.most

  pub fine_file : (f : List ℕ) → file_checked family f ≡ Ok tt → Readable f
  unfolding file_checked
  fine_file f e =
      let a = and_then_fine (layout_checked family f) _ e in
      let b = and_then_fine (form_checked width (file_terms f)) _ a.1 in
      let scan = scan_fine family.most (sample_count family f) b.1 in
      record { laid = well_laid family f a.0; form = b.0; nonempty = scan.0; short = scan.1 }

  pub file_fine : (f : List ℕ) → Readable f → file_checked family f ≡ Ok tt
  unfolding file_checked
  file_fine f r = rw (laid_well family f r.laid, r.form, fine_scan family.most (sample_count family f) r.nonempty r.short)

  -- the slices have room for what it holds
  pub record Fit (f : List ℕ) (samples terms : ℕ) : Type 0 where
    pub for_terms : term_count f ≤ terms
    pub for_samples : sample_count family f ≤ samples

  fine_slices : (f : List ℕ) (samples terms : ℕ) → slices_checked family f samples terms ≡ Ok tt → Fit f samples terms
  unfolding slices_checked
  fine_slices f samples terms e =
      let a = and_then_fine (room_checked (term_count f) terms) _ e in
      record {
        for_terms = room_fine (term_count f) terms a.0;
        for_samples = ltb-false samples (sample_count family f) (refuse_no _ _ a.1);
      }

  pub slices_fine : (f : List ℕ) (samples terms : ℕ) → Fit f samples terms → slices_checked family f samples terms ≡ Ok tt
  unfolding slices_checked
  slices_fine f samples terms r = rw (fine_room (term_count f) terms r.for_terms, le-ltb samples (sample_count family f) r.for_samples)

  pub fine_read : (f : List ℕ) (samples terms : ℕ) → read_checked family f samples terms ≡ Ok tt → Readable f × Fit f samples terms
  unfolding read_checked
  fine_read f samples terms e =
      let a = and_then_fine (file_checked family f) (slices_checked family f samples terms) e in
      (fine_file f a.0, fine_slices f samples terms a.1)

  pub read_fine : (f : List ℕ) (samples terms : ℕ) → Readable f → Fit f samples terms → read_checked family f samples terms ≡ Ok tt
  unfolding read_checked
  read_fine f samples terms r q = rw (file_fine f r, slices_fine f samples terms q)

  -- ---- a form and so many samples that can be written

  pub record Writable (form : List ℕ) (samples lent : ℕ) : Type 0 where
    pub sound : form_checked width form ≡ Ok tt
    pub nonempty : 1 ≤ samples
    pub short : samples ≤ family.most
    pub fits : lent ≡ file_length family samples (length form)

  pub fine_write : (form : List ℕ) (samples lent : ℕ) → write_checked family form samples lent ≡ Ok tt → Writable form samples lent
  unfolding write_checked
  fine_write form samples lent e =
      let a = and_then_fine (form_checked width form) _ e in
      let b = and_then_fine (scan_checked family.most samples) _ a.1 in
      let scan = scan_fine family.most samples b.0 in
      record { sound = a.0; nonempty = scan.0; short = scan.1; fits = lent_fine (file_length family samples (length form)) lent b.1 }

  pub write_fine : (form : List ℕ) (samples lent : ℕ) → Writable form samples lent → write_checked family form samples lent ≡ Ok tt
  unfolding write_checked
  write_fine form samples lent w =
      let scan = fine_scan family.most samples w.nonempty w.short in
      rw (w.sound, scan, fine_lent (file_length family samples (length form)) lent w.fits)
