-- `files::ScanFile::fill` meets its contract. Assumes nothing.
use Rattle.std.proofs.Common.{arith, ℕ, ap₂, ◌∙◌}
use Rattle.std.specs.Prelude.{Result, Ok}
use Rattle.refusals.specs.declared.Refusal.{Refusal}
use Rattle.files.specs.declared.Sizes.{Sizes}
use Rattle.files.specs.Layout.{counts_family}
use Rattle.files.specs.Files.{sizes}
use Rattle.files.proofs.Layouts.{samples_counted, terms_counted}
use Rattle.files.proofs.Accepts.{fine_read}
use Rattle.files.proofs.ScanFile+OfCounts.fill.Goals as goal

pub read_words-requires : goal.read_words-requires
read_words-requires c =
    let fit = (fine_read counts_family c.args.self.now.bytes.now _ _ c.requires).1 in
    omega (arith, fit.for_samples, c.samples-samples_in.ensures.1)

pub read_words-requires-2 : goal.read_words-requires-2
read_words-requires-2 c =
    let fit = (fine_read counts_family c.args.self.now.bytes.now _ _ c.requires).1 in
    omega (arith, fit.for_terms, c.terms-terms_in.ensures.1)

pub returns : goal.returns
returns c =
    let f = c.args.self.now.bytes.now in
    let s = c.samples-samples_in.ensures in
    let t = c.terms-terms_in.ensures in
    let told : ℕ → ℕ → Result Sizes Refusal = λ m n. Ok (sizes m n) in
    record {
      answer = rw (c.requires, samples_counted f, terms_counted f) (ap₂ told s.1 t.1);
      samples_out = rw (c.requires, samples_counted f) (c.read_words.ensures ∙ rw (s.0, s.1));
      terms_out = rw (c.requires, terms_counted f) (c.read_words-2.ensures ∙ rw (t.0, t.1));
    }
