-- `files::fill_file` meets its contract. Assumes nothing.
use Rattle.std.proofs.Common.{arith, length, append_assoc, sym}
use Rattle.files.specs.Bytes.{in_words}
use Rattle.files.specs.Layout.{counts_family, terms_distance, file_length, trailer, file_of, counts_file}
use Rattle.files.proofs.fill_file.Goals as goal

pub split_at_mut-samples-requires : goal.split_at_mut-samples-requires
unfolding file_length terms_distance
split_at_mut-samples-requires c = omega arith

pub split_at_mut-words-requires : goal.split_at_mut-words-requires
unfolding file_length terms_distance
split_at_mut-words-requires c = omega arith

pub new-requires : goal.new-requires
unfolding file_length terms_distance
new-requires c = (omega arith, omega arith)

pub write-requires : goal.write-requires
unfolding file_length terms_distance
write-requires c = omega arith

pub returns : goal.returns
unfolding counts_file file_of
returns c =
    let scan = in_words c.args.scan.now in
    let terms = in_words c.args.terms.now in
    rw (c.put_words.ensures, c.put_words-2.ensures, c.write.ensures, c.new.ensures)
    (sym (append_assoc scan terms (trailer counts_family (length c.args.scan.now) (length c.args.terms.now))))
