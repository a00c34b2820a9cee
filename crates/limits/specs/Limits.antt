-- Every number of documents 01 and 02, named once; src/lib.rt has the same names in capitals, in the same order.
use Rattle.std.specs.Prelude.{ℕ, ◌+◌, ◌-◌, ◌*◌, ◌/◌, ◌^◌}

-- an offset is -4 to 4
abbrev pub reach : ℕ
reach = 4

-- a window has one position to an offset
abbrev pub width : ℕ
width = 2 * reach + 1

-- a pattern is a number below this, and so is a set of offsets
abbrev pub patterns : ℕ
patterns = 2 ^ width

-- a truth table has a bit to a pattern
abbrev pub byte_bits : ℕ
byte_bits = 8

abbrev pub table_bytes : ℕ
table_bytes = patterns / byte_bits

-- a form has at most so many terms, and a scan 1 to so many samples, each 0 to the top
abbrev pub most_terms : ℕ
most_terms = 126

abbrev pub most_samples : ℕ
most_samples = 16384

abbrev pub top : ℕ
top = 2 ^ 16 - 1

-- a recipe is 1 to 32 steps of four bytes
abbrev pub step_bytes : ℕ
step_bytes = 4

abbrev pub most_steps : ℕ
most_steps = 32

-- so many signals are held at once; there are so many presets
abbrev pub most_signals : ℕ
most_signals = 8

abbrev pub presets : ℕ
presets = 20

-- a scan file: samples and terms are words of two bytes, and the trailer follows
abbrev pub word_bytes : ℕ
word_bytes = 16 / byte_bits

abbrev pub trailer_bytes : ℕ
trailer_bytes = 12

abbrev pub longest_file : ℕ
longest_file = word_bytes * most_samples + word_bytes * most_terms + trailer_bytes

-- the report's line is lent so many bytes, more than the longest has
abbrev pub line_bytes : ℕ
line_bytes = 128

-- a list of names has at most so many lines, and a name 1 to so many bytes; a line feed ends each
abbrev pub most_names : ℕ
most_names = 250

abbrev pub longest_name : ℕ
longest_name = 255

abbrev pub longest_list : ℕ
longest_list = most_names * (longest_name + 1)

-- the night sheet's last line is lent so many bytes, more than the longest has
abbrev pub totals_bytes : ℕ
totals_bytes = 512
