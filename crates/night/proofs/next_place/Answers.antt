use Rattle.std.proofs.Common.{arith, refl}
use borrow.Author.Tests.{lt-ltb, le-ltb}
use Rattle.night.specs.Private.{next_place}
use Rattle.night.proofs.next_place.Goals as goal

pub returns-then-bytes-room : goal.returns-then-bytes-room
unfolding next_place
returns-then-bytes-room c = rw (lt-ltb c.args.bytes c.args.room (omega arith)) refl

pub returns-else-bytes-room : goal.returns-else-bytes-room
unfolding next_place
returns-else-bytes-room c = rw (le-ltb c.args.bytes c.args.room (omega arith)) refl
