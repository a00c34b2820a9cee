-- `files::Trailer::write` meets its contract. Assumes nothing.
use Rattle.std.proofs.Common.{arith, append_assoc, sym, ◌∙◌, ◌++◌}
use Rattle.files.specs.Bytes.{four_bytes, two_bytes}
use Rattle.files.proofs.Numbers.{two_is, four_is}
use Rattle.files.proofs.Trailer.write.Goals as goal

pub returns : goal.returns
returns c =
    let t = c.args.self in
    rw (
      c.copy_from_slice.ensures.after ∙ c.to_le_bytes.ensures ∙ four_is t.to_samples (omega arith),
      c.copy_from_slice-2.ensures.after ∙ c.to_le_bytes-2.ensures ∙ four_is t.to_terms (omega arith),
      c.copy_from_slice-3.ensures.after ∙ c.to_le_bytes-3.ensures ∙ two_is t.terms (omega arith),
      c.copy_from_slice-4.ensures.after ∙ c.to_le_bytes-4.ensures ∙ two_is t.mark (omega arith),
    )
    (sym (append_assoc (four_bytes t.to_samples ++ four_bytes t.to_terms) (two_bytes t.terms) (two_bytes t.mark)))
