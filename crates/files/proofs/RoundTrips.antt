-- Demand 2, the scan file: what is written reads back as the same samples and form, a file that was read is written again byte for
-- byte, and a readable file is the only file for its contents.
-- Assumes nothing.
use Rattle.std.specs.Prelude.{Result, Ok}
use Rattle.refusals.specs.declared.Refusal.{Refusal}
use mathlib.Core.Path.{◌≡◌, refl, sym, ap, ap₂, ◌∙◌}
use mathlib.Core.List.{List, ◌++◌}
use Prim.Native.Nat.{ℕ, ◌*◌, ◌≤◌, ◌<◌}
use native.Mathlib.Omega.{arith}
use lib.ListN.{length, take, drop}
use Rattle.limits.specs.Limits.{width}
use Rattle.refusals.proofs.Checks.{done_fine, written_whole}
use Rattle.forms.proofs.Fine.{fine_few}
use Rattle.files.specs.declared.Family.{Family}
use Rattle.files.specs.Layout.{counts_family, term_count, file_terms, sample_count, file_of, file_samples, counts_file}
use Rattle.files.specs.declared.Sizes.{Sizes}
use Rattle.files.specs.Files.{sizes, layout_checked, file_checked, write_checked, Read, Write}
use Rattle.files.specs.Causes.{Bytes}
use Rattle.files.specs.Private.{counts_usable}
use Rattle.files.proofs.Layouts.{well_laid, whole, samples_counted, terms_counted}
use Rattle.files.proofs.Stores.{length-in_words}
use Rattle.files.proofs.Accepts.{fine_file, file_fine, Readable, Writable, read_fine, fine_write, write_fine}
use Rattle.files.proofs.Held.{held}
use Rattle.files.proofs.Contents.{file_laid, count_of, terms_of, file_of_contents}
use Rattle.files.proofs.Contents.{length_counts, counts_samples, counts_terms, counts_of_contents, only_file}

-- ---- over the definitions, for any family

module _ (family : Family) (wide : 0 < family.bytes) where
  -- the file of a form and of samples that are accepted can be read, and holds the same form and as many samples
  pub written_readable : (stored : List ℕ) (samples : ℕ) (form : List ℕ) (lent : ℕ) → length stored ≡ family.bytes * samples
      → write_checked family form samples lent ≡ Ok tt
      → Readable family (file_of family stored samples form)
  written_readable stored samples form lent fits e =
      let w = fine_write family form samples lent e in
      let count = count_of family stored samples form fits wide in
      record {
        laid = file_laid family stored samples form fits (fine_few width form w.sound) w.short;
        form = rw (terms_of family stored samples form fits) w.sound;
        nonempty = rw count w.nonempty;
        short = rw count w.short;
      }

-- a file that is laid out well is what is written of its contents
pub contents_write : (family : Family) (f : List ℕ) → Bytes f → layout_checked family f ≡ Ok tt
    → file_of family (take (family.bytes * sample_count family f) f) (sample_count family f) (file_terms f) ≡ f
contents_write family f ok e = file_of_contents family f ok (well_laid family f e)

-- ---- over the definitions, for counts

-- what is written reads back: the file is accepted, and holds the same samples and the same form
counts_readable : (form scan : List ℕ) (lent : ℕ) → write_checked counts_family form (length scan) lent ≡ Ok tt
    → Readable counts_family (counts_file form scan)
unfolding counts_file
counts_readable form scan lent e = written_readable counts_family counts_usable.wide _ (length scan) form lent (length-in_words scan) e

pub written_holds : (form scan : List ℕ) (lent : ℕ) → write_checked counts_family form (length scan) lent ≡ Ok tt
    → (file_checked counts_family (counts_file form scan) ≡ Ok tt)
    × (file_samples (counts_file form scan) ≡ scan)
    × (file_terms (counts_file form scan) ≡ form)
written_holds form scan lent e =
    (file_fine counts_family (counts_file form scan) (counts_readable form scan lent e), counts_samples form scan, counts_terms form scan)

-- a readable file is the only file for its contents
pub only_file_for : (f g : List ℕ) → Bytes f → Bytes g
    → file_checked counts_family f ≡ Ok tt → file_checked counts_family g ≡ Ok tt
    → file_samples f ≡ file_samples g → file_terms f ≡ file_terms g → f ≡ g
only_file_for f g a b p q s t = only_file f g a b (fine_file counts_family f p).laid (fine_file counts_family g q).laid s t

-- ---- over the calls: written, then read

-- what is written reads back: the same samples and the same form, where there is room for them
pub written_reads_back : (form scan : List ℕ) {old file samples samples' terms terms' : List ℕ} {n : ℕ} {a : Result Sizes Refusal}
    → Write form scan old file (Ok n) → Read file samples samples' terms terms' a
    → length scan ≤ length samples → length form ≤ length terms
    → (a ≡ Ok (sizes (length scan) (length form)))
    × (samples' ≡ scan ++ drop (length scan) samples)
    × (terms' ≡ form ++ drop (length form) terms)
written_reads_back form scan {old} {file} {samples} {samples'} {terms} {terms'} {n} {a} w r room room' =
    let e = (done_fine (write_checked counts_family form (length scan) (length old)) (length (counts_file form scan)) n w.answer).0 in
    let exact = (fine_write counts_family form (length scan) (length old) e).fits in
    let fits : length old ≤ length (counts_file form scan) = omega (arith, length_counts form scan, exact) in
    let same : file ≡ counts_file form scan = w.out ∙ written_whole (counts_file form scan) old e fits in
    let s : file_samples file ≡ scan = ap file_samples same ∙ counts_samples form scan in
    let t : file_terms file ≡ form = ap file_terms same ∙ counts_terms form scan in
    let readable : Readable counts_family file = rw same (counts_readable form scan (length old) e) in
    let m : sample_count counts_family file ≤ length samples = rw (← samples_counted file, s) room in
    let k : term_count file ≤ length terms = rw (← terms_counted file, t) room' in
    let fine = read_fine counts_family file (length samples) (length terms) readable (record { for_terms = k; for_samples = m }) in
    (rw (fine, s, t) at r.answer, rw (fine, s) at r.samples_out, rw (fine, t) at r.terms_out)

-- ---- over the calls: read, then written

-- what was read is written to the same file, byte for byte
pub read_writes_back : {f samples samples' terms terms' old new : List ℕ} {m n : ℕ} {a : Result ℕ Refusal}
    → Bytes f → Read f samples samples' terms terms' (Ok (sizes m n)) → Write (take n terms') (take m samples') old new a
    → length old ≡ length f → (a ≡ Ok (length f)) × (new ≡ f)
read_writes_back {f} {samples} {samples'} {terms} {terms'} {old} {new} {m} {n} {a} ok r w long =
    let h = held r refl in
    let readable = h.readable in
    let laid = readable.laid in
    let file = ap₂ counts_file h.terms_held h.samples_held ∙ counts_of_contents f ok laid in
    let sound : Writable counts_family (take n terms') (length (take m samples')) (length old) =
    rw (h.terms_held, h.samples_held, samples_counted f) (record {
      sound = readable.form;
      nonempty = readable.nonempty;
      short = readable.short;
      fits = rw (terms_counted f) (long ∙ whole counts_family f laid);
    }) in
    let fine = write_fine counts_family (take n terms') (length (take m samples')) (length old) sound in
    (rw (fine, file) at w.answer, (rw (fine, file) at w.out) ∙ written_whole f old refl (omega arith))

-- ---- over the calls: two files that read alike are one

pub read_alike : {f g samples samples₁ samples₂ samples₃ terms terms₁ terms₂ terms₃ : List ℕ} {m n : ℕ} → Bytes f → Bytes g
    → Read f samples samples₁ terms terms₁ (Ok (sizes m n)) → Read g samples₂ samples₃ terms₂ terms₃ (Ok (sizes m n))
    → take m samples₁ ≡ take m samples₃ → take n terms₁ ≡ take n terms₃ → f ≡ g
read_alike {f} {g} a b r q s t =
    let h = held r refl in
    let k = held q refl in
    let samples = sym h.samples_held ∙ s ∙ k.samples_held in
    only_file f g a b h.readable.laid k.readable.laid samples (sym h.terms_held ∙ t ∙ k.terms_held)
