-- `files::ScanFile::terms` meets its contract. Assumes nothing.
use Rattle.std.proofs.Common.{◌*◌}
use Rattle.files.specs.Layout.{sample_count, term_count, file_terms}
use Rattle.files.proofs.Layouts.{well_laid, first_term}
use Rattle.files.proofs.Numbers.{words_lie}
use Rattle.files.proofs.ScanFile.terms.Goals as goal

pub returns : goal.returns
unfolding file_terms
returns g c =
    let s = c.args.self.now in
    let family = g.K.Kind.FAMILY in
    let f = s.bytes.now in
    let words = c.as_chunks.ensures in
    let parts = c.parts.ensures in
    rw (first_term family f (well_laid family f s.laid_out))
    (words_lie f (family.bytes * sample_count family f) (term_count f) _ _ parts.whole parts.terms words.front words.front_len)
