-- `files::check_form` meets its contract. Assumes nothing.
use Rattle.std.proofs.Common.{arith, ◌+◌, ◌≡◌, ap, sym, ◌∙◌, take, take_at, length, length-take-le}
use Rattle.std.proofs.lemmas.List.{take-map}
use Rattle.std.specs.Int.{w16, from_le_bytes}
use Rattle.limits.specs.Limits.{width, patterns}
use Rattle.forms.specs.Check.{form_checked}
use Rattle.files.specs.Private.{numbers}
use Rattle.files.proofs.Fronts.{front_enough}
use Rattle.files.proofs.Numbers.{length-numbers}
use Rattle.files.proofs.check_form.Goals as goal

pub returns : goal.returns
returns c =
    let ws = c.args.words.now in
    let m = c.min-few.result in
    let few = take m ws in
    let long : length (numbers few) ≡ m = length-numbers few ∙ length-take-le m ws (omega arith) in
    c.check.ensures
    ∙ ap (form_checked width) (ap (take m) c.read_words.ensures ∙ take_at (numbers few) _ m long ∙ sym (take-map (from_le_bytes w16) m ws))
    ∙ front_enough width m (patterns + 1) (numbers ws) (omega (arith, length-numbers ws)) (omega arith)
