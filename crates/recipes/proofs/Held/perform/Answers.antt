-- `perform` meets its contract: what each arm of its match leaves, and what becomes of it.
-- Assumes nothing.
use Rattle.std.proofs.Common.{rules, arith, ◌≡◌, Err, sym, ap, ◌∙◌}
use Rattle.refusals.specs.declared.Refusal.TheVariants as refusal
use Rattle.recipes.specs.Private.{within}
use Rattle.recipes.proofs.Turns.{none_held, one_held, Left, left_scan, left_one, left_two, eroding, dilating, opening, joining, left_far, left_after}
use Rattle.recipes.proofs.Held.perform.Goals as goal
use Rattle.recipes.proofs.Held.perform.Goals.{After-ok_or, in-Signal, in-Dilate+in_ok-take-in-Dilate, in-Larger+in_ok-last-in-Larger+in_ok-take-in-Larger, in-Open+in_ok-take-in-Open, in-Erode+in_ok-take-in-Erode}

-- what the match leaves
the_left : (c : After-ok_or) → Left c.args.step c.args.self.now.reaches.items c.match-step.self.reaches.items c.match-step.left
the_left c = elim c.match-step.branch [
  | in-Signal w ↦ rw (w.self-is, w.left-is) (left_scan w.in-Signal.is w.default.ensures)
  | in-Dilate+in_ok-take-in-Dilate w ↦ let t = dilating w.in-Dilate.is in
      rw (w.self-is, w.left-is) (left_one c.args.step _ t.0 w.in_ok-take-in-Dilate.ensures.ok c.args.self.now.few (w.dilated-left.ensures ∙ ap within (sym (t.1 _ _))))
  | in-Larger+in_ok-last-in-Larger+in_ok-take-in-Larger w ↦ let t = joining w.in-Larger.is in
      rw (w.self-is, w.left-is) (left_two c.args.step _ _ t.0 w.in_ok-last-in-Larger.ensures.ok w.in_ok-take-in-Larger.ensures.ok c.args.self.now.few (w.joined-left.ensures ∙ ap within (sym (t.1 _ _))))
  | in-Open+in_ok-take-in-Open w ↦ let t = opening w.in-Open.is in
      rw (w.self-is, w.left-is) (left_one c.args.step _ t.0 w.in_ok-take-in-Open.ensures.ok c.args.self.now.few (w.opened-left.ensures ∙ ap within (sym (t.1 _ _))))
  | in-Erode+in_ok-take-in-Erode w ↦ let t = eroding w.in-Erode.is in
      rw (w.self-is, w.left-is) (left_one c.args.step _ t.0 w.in_ok-take-in-Erode.ensures.ok c.args.self.now.few (w.eroded-left.ensures ∙ ap within (sym (t.1 _ _))))
]

pub returns-in_err-take-in-Erode-clause-answer : goal.returns-in_err-take-in-Erode-clause-answer
returns-in_err-take-in-Erode-clause-answer c =
    let p = c.in_err-take-in-Erode.ensures.err in
    let r : c.from_residual-in_err-take-in-Erode.result ≡ Err c.in_err-take-in-Erode.field-0.0 = search rules in
    r ∙ rw p.0 (sym (none_held c.args.place c.args.step (omega (arith, (eroding c.in-Erode.is).0)) p.1))

pub returns-in_err-take-in-Dilate-clause-answer : goal.returns-in_err-take-in-Dilate-clause-answer
returns-in_err-take-in-Dilate-clause-answer c =
    let p = c.in_err-take-in-Dilate.ensures.err in
    let r : c.from_residual.result ≡ Err c.in_err-take-in-Dilate.field-0.0 = search rules in
    r ∙ rw p.0 (sym (none_held c.args.place c.args.step (omega (arith, (dilating c.in-Dilate.is).0)) p.1))

pub returns-in_err-take-in-Open-clause-answer : goal.returns-in_err-take-in-Open-clause-answer
returns-in_err-take-in-Open-clause-answer c =
    let p = c.in_err-take-in-Open.ensures.err in
    let r : c.from_residual-in_err-take-in-Open.result ≡ Err c.in_err-take-in-Open.field-0.0 = search rules in
    r ∙ rw p.0 (sym (none_held c.args.place c.args.step (omega (arith, (opening c.in-Open.is).0)) p.1))

pub returns-in_err-last-in-Larger-clause-answer : goal.returns-in_err-last-in-Larger-clause-answer
returns-in_err-last-in-Larger-clause-answer c =
    let p = c.in_err-last-in-Larger.ensures.err in
    let r : c.from_residual-in_err-last-in-Larger.result ≡ Err c.in_err-last-in-Larger.field-0.0 = search rules in
    r ∙ rw p.0 (sym (none_held c.args.place c.args.step (omega (arith, (joining c.in-Larger.is).0)) p.1))

pub returns-in_err-take-in-Larger-clause-answer : goal.returns-in_err-take-in-Larger-clause-answer
returns-in_err-take-in-Larger-clause-answer c =
    let p = c.in_err-take-in-Larger.ensures.err in
    let last = c.in_ok-last-in-Larger in
    let r : c.from_residual-in_err-take-in-Larger.result ≡ Err c.in_err-take-in-Larger.field-0.0 = search rules in
    r ∙ rw p.0 (sym (one_held c.args.place c.args.step last.last (joining c.in-Larger.is).0 last.ensures.ok p.1))

pub returns-in_err-ok_or-clause-answer : goal.returns-in_err-ok_or-clause-answer
returns-in_err-ok_or-clause-answer c =
    let h = the_left (goal.at.returns-in_err-ok_or-clause-answer c).After-ok_or in
    let p = c.in_err-ok_or.ensures in
    let r : c.from_residual-in_err-ok_or.result ≡ Err c.in_err-ok_or.field-0.0 = search rules in
    let value = rw p.ok_part at p.value in
    let far : c.in_err-ok_or.field-0.0 ≡ refusal.Reach c.args.place = cc in
    r ∙ rw far (sym (left_far h c.args.place p.ok_part))

pub returns : goal.returns
returns c =
    let h = the_left (goal.at.returns c).After-ok_or in
    let k = left_after h c.args.place _ _ c.in_ok-ok_or.ensures.ok_part c.hold.result c.hold.ensures.ok c.hold.ensures.err in
    record { answer = k.0; held = k.1 }
