-- `files::ScanFile::first_term` meets its contract. Assumes nothing.
use Rattle.std.proofs.Common.{arith, ◌≡◌, ap}
use Rattle.files.specs.declared.Trailer.{Trailer}
use Rattle.files.specs.Layout.{terms_back}
use Rattle.files.proofs.Layouts.{well_laid, first_term}
use Rattle.files.proofs.ScanFile.first_term.Goals as goal

pub overflow_sub-result : goal.overflow_sub-result
overflow_sub-result g c =
    let s = c.args.self.now in
    let l = well_laid g.K.Kind.FAMILY s.bytes.now s.laid_out in
    omega (arith, l.in_order, l.to_samples, ap (λ (t : Trailer). t.to_terms) s.said)

pub returns : goal.returns
returns g c =
    let s = c.args.self.now in
    let back : s.trailer.to_terms ≡ terms_back s.bytes.now = ap (λ (t : Trailer). t.to_terms) s.said in
    rw back (first_term g.K.Kind.FAMILY s.bytes.now (well_laid g.K.Kind.FAMILY s.bytes.now s.laid_out))
