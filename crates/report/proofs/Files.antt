-- What was read is some file, and of every file there is a line. Assumes nothing.
use Rattle.std.proofs.Common.{◌≡◌, ℕ, List, refl, length, replicate, Result, Ok, Err}
use Rattle.std.specs.Borrow.{Bor}
use Rattle.std.specs.Result.{IsOk}
use lib.ListN.{length-replicate}
use Rattle.limits.specs.Limits.{line_bytes}
use Rattle.refusals.specs.Shared.{lent_checked}
use Rattle.refusals.specs.declared.Refusal.{Refusal}
use Rattle.lines.specs.Lines.{Line}
use Rattle.system.specs.declared.long.TooLong.{TooLong}
use Rattle.system.specs.Reads.{IsFile}

-- its bytes, or, where it is too long, any bytes
pub some_file : (file : Result (Bor (List ℕ)) TooLong) → (f : List ℕ) × IsFile file f
some_file (Ok bytes) = (bytes.now, refl)
some_file (Err whole) = (replicate whole.length 0, length-replicate whole.length 0)

-- where as many bytes are lent as the call wants, it does not refuse
pub line_given : (f old new : List ℕ) (r : Result ℕ Refusal) → length old ≡ line_bytes → Line f old new r → IsOk r
unfolding lent_checked
line_given f old new (Ok n) e p = refl
line_given f old new (Err q) e p =
    let never = rw e at p.answer in
    absurd (cc)
