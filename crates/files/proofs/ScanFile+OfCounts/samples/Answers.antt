-- `files::ScanFile::samples` meets its contract. Assumes nothing.
use Rattle.std.proofs.Common.{arith}
use Rattle.files.specs.Layout.{counts_family, sample_count}
use Rattle.files.proofs.Layouts.{well_laid, samples_lie}
use Rattle.files.proofs.Numbers.{words_lie}
use Rattle.files.proofs.ScanFile+OfCounts.samples.Goals as goal

pub returns : goal.returns
returns c =
    let s = c.args.self.now in
    let f = s.bytes.now in
    let words = c.as_chunks.ensures in
    rw (samples_lie f (well_laid counts_family f s.laid_out))
    (words_lie f 0 (sample_count counts_family f) _ _ (omega (arith, c.parts.ensures.whole)) c.parts.ensures.samples words.front words.front_len)
