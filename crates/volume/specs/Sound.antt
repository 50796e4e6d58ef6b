-- Document 01, "Words and limits" and "A state is sound when".
use Rattle.std.specs.Prelude.{ℕ, ◌%◌, ◌^◌, Bool, cond, ◌&&◌, List, eqb, leb, ltb, length}
use Rattle.layout.specs.History.{disk_count, rising}
use Rattle.layout.specs.Limits.{most_disks, most_growths, most_rows}
use Rattle.marks.specs.Marks.{mark_count, moving_marks_in, zeros_after, at_rest, in_growth}
use Rattle.marks.specs.Words.{marks_of}
use Rattle.medium.specs.Medium.{most_size}
use Rattle.volume.specs.declared.Volume.{Volume}
use Rattle.volume.specs.States.{history_of}

-- "Z: bytes in a block, a multiple of 512 from 512 to 65,536."
abbrev pub size_step : ℕ
size_step = 512

abbrev pub least_size : ℕ
least_size = 512

unfoldable pub size_holds : (z : ℕ) → Bool
size_holds z = leb least_size z && (leb z most_size && eqb (z % size_step) 0)

-- "s: rows on each disk, 1 to 1,000,000."
abbrev pub least_rows : ℕ
least_rows = 1

unfoldable pub rows_hold : (s : ℕ) → Bool
rows_hold s = leb least_rows s && leb s most_rows

-- a disk count: "1 to 16"
abbrev pub least_disks : ℕ
least_disks = 1

unfoldable pub disks_hold : (n : ℕ) → Bool
disks_hold n = leb least_disks n && leb n most_disks

-- "N[0] to N[t]: disk counts, strictly rising, 1 to 16; t, the number of growths, is 0 to 7." Counts that rise from 1 are all at most
-- the last one.
unfoldable pub limits_hold : (v : Volume) → Bool
limits_hold v =
    size_holds v.size
    && (rows_hold v.rows
    && (leb v.growths most_growths
    && (rising (history_of v)
    && leb (disk_count (history_of v)) most_disks)))

-- the marks of the moving blocks of the state's window
unfoldable pub moving_of : (v : Volume) → List Bool
moving_of v = moving_marks_in v.rows (history_of v) v.window

-- the stages that crate `marks` defines, of the state's window and marks: not growing, and growing
abbrev pub rest_holds : (v : Volume) → Bool
rest_holds v = at_rest v.window (marks_of v.recorded) (marks_of v.copied)

abbrev pub growth_holds : (v : Volume) → Bool
growth_holds v = in_growth v.growths v.rows (history_of v) v.window (marks_of v.recorded) (marks_of v.copied)

-- "growing (0 or 1)"
unfoldable pub stage_holds : (v : Volume) → Bool
stage_holds v = cond (eqb v.growing 0) (rest_holds v) (eqb v.growing 1 && growth_holds v)

-- the length of the array and the bounds of the words, which the code's types fix
unfoldable pub types_hold : (v : Volume) → Bool
types_hold v = eqb (length v.counts) 8 && (ltb v.recorded (2 ^ mark_count) && ltb v.copied (2 ^ mark_count))

-- "A state is sound when: the limits hold; counts after N[t] are 0;" and the rest as above.
unfoldable pub sound : (v : Volume) → Bool
sound v = types_hold v && (limits_hold v && (zeros_after v.counts v.growths && stage_holds v))
