-- Only private contracts cite this: the change that a step makes of a row.
use Rattle.std.specs.Prelude.{Option, Some, None, ◌+◌, ◌/◌}
use Rattle.theory.specs.Signals.{window, size}
use Rattle.recipes.specs.declared.Step.{Step}
use Rattle.recipes.specs.declared.Step.TheVariants.{Signal, Erode, Dilate, Open, Close, Rank, Median, Larger, Smaller}
use Rattle.rows.specs.declared.Change.{Change}
use Rattle.rows.specs.declared.Change.TheVariants as change

-- the change that a step of 1 to 6 makes of the last row; none, where it adds a signal or joins two
abbrev pub change_in : Step → Option Change
change_in Signal = None
change_in (Erode B) = Some (change.Erode B)
change_in (Dilate B) = Some (change.Dilate B)
change_in (Open B) = Some (change.Open B)
change_in (Close B) = Some (change.Close B)
change_in (Rank k B) = Some (change.Rank k B)
change_in (Median B) = Some (change.Rank ((size window B + 1) / 2) B)
change_in Larger = None
change_in Smaller = None
