use Rattle.std.proofs.Common.{◌≡◌, ◌-◌, ◌≤◌, ℕ, sym, ap, arith, length, take, drop}
use Rattle.lists.specs.Judge.{judged}
use Rattle.night.proofs.Pieces.{place_within, piece_behind, piece-judged}
use Rattle.night.proofs.read_piece.Goals as goal

-- nothing came: the piece is empty
pub returns-in_default : goal.returns-in_default
returns-in_default g c =
    let old = c.args.text.now in
    let new = c.read_more.new.input in
    let place = c.next_place-place.result in
    let judge = c.args.before.judge in
    let none : place - place ≡ 0 = omega arith in
    let within : place ≤ length old = omega (arith, c.next_place-place.ensures, place_within c.args.before.bytes (length old)) in (
      omega (arith, within, c.read_more.auto.input),
      piece-judged old new c.args.before.bytes place judge judge place c.requires.size c.requires.within c.requires.judged c.next_place-place.ensures
          (record { enough = omega arith; within = within; kept = c.in_ok-bytes.ensures.kept })
          (sym (ap (λ (k : ℕ). judged judge (take k (drop place new))) none)),
    )

pub slice_bounds-judge_piece-count : goal.slice_bounds-judge_piece-count
slice_bounds-judge_piece-count g c =
    piece_behind c.args.text.now c.read_more.new.input c.args.before.bytes _ c.next_place-place.result c.next_place-place.ensures (rw c.in-Some.is at c.in_ok-bytes.ensures.more)

pub slice_bounds-judge_piece-start : goal.slice_bounds-judge_piece-start
slice_bounds-judge_piece-start g c =
    piece_behind c.args.text.now c.read_more.new.input c.args.before.bytes _ c.next_place-place.result c.next_place-place.ensures (rw c.in-Some.is at c.in_ok-bytes.ensures.more)

pub returns-then-is_over : goal.returns-then-is_over
returns-then-is_over g c =
    let old = c.args.text.now in
    let new = c.read_more.new.input in
    let more = rw c.in-Some.is at c.in_ok-bytes.ensures.more in (
      omega (arith, more.within, c.read_more.auto.input),
      piece-judged old new c.args.before.bytes c.in-Some.bytes c.args.before.judge _ c.next_place-place.result
          c.requires.size c.requires.within c.requires.judged c.next_place-place.ensures more c.judge_piece-judge.ensures,
    )

pub returns : goal.returns
returns g c =
    let old = c.args.text.now in
    let new = c.read_more.new.input in
    let more = rw c.in-Some.is at c.in_ok-bytes.ensures.more in (
      omega (arith, more.within, c.read_more.auto.input),
      piece-judged old new c.args.before.bytes c.in-Some.bytes c.args.before.judge _ c.next_place-place.result
          c.requires.size c.requires.within c.requires.judged c.next_place-place.ensures more c.judge_piece-judge.ensures,
    )
