-- Document 01, "Medium, state, record": "Numbers are decimal, right-justified with spaces, no leading zeros, ten columns each".
-- Bytes are numbers here.
use Rattle.std.specs.Prelude.{ℕ, zero, suc, ◌+◌, ◌-◌, ◌*◌, ◌/◌, ◌%◌, Bool, cond, not, ◌&&◌, List, [], ◌∷◌, ◌++◌, eqb, leb, length, replicate}
use Rattle.record.specs.declared.Column.{Column}
use Rattle.record.specs.declared.Column.TheVariants.{Number, Blank, NotANumber}

-- the bytes ' ' and '0'
abbrev pub space : ℕ
space = 0x20

abbrev pub zero_digit : ℕ
zero_digit = 0x30

-- "ten columns each"
abbrev pub column_width : ℕ
column_width = 10

-- ---- writing

-- the byte of the last digit of n
abbrev pub last_digit : (n : ℕ) → ℕ
last_digit n = zero_digit + n % 10

-- w columns that end in the digits of n; spaces alone where n is 0
unfoldable pub leading : (w n : ℕ) → List ℕ
leading zero n = []
leading (suc w) n = leading w (n / 10) ++ (cond (eqb n 0) space (last_digit n) ∷ [])

-- n in w columns: its last digit, also for 0, and before it the digits of n / 10
unfoldable pub decimal : (w n : ℕ) → List ℕ
decimal zero n = []
decimal (suc w) n = leading w (n / 10) ++ (last_digit n ∷ [])

-- a column that holds no number
unfoldable pub blank : List ℕ
blank = replicate column_width space

-- ---- reading

unfoldable pub is_digit : (b : ℕ) → Bool
is_digit b = leb zero_digit b && leb b (zero_digit + 9)

-- what is found with one byte more: after 0 there is no further digit, after a digit no space
unfoldable pub column_step : (c : Column) (b : ℕ) → Column
column_step (Number n) b = cond (is_digit b && not (eqb n 0)) (Number (n * 10 + (b - zero_digit))) NotANumber
column_step Blank b = cond (eqb b space) Blank (cond (is_digit b) (Number (b - zero_digit)) NotANumber)
column_step NotANumber b = NotANumber

unfoldable pub column_fold : (c : Column) (bytes : List ℕ) → Column
column_fold c [] = c
column_fold c (b ∷ bytes) = column_fold (column_step c b) bytes

-- what ten bytes hold
unfoldable pub read_column : (bytes : List ℕ) → Column
read_column bytes = cond (eqb (length bytes) column_width) (column_fold Blank bytes) NotANumber

-- the number that was found, or 0
abbrev pub value_of : (c : Column) → ℕ
value_of (Number n) = n
value_of Blank = 0
value_of NotANumber = 0
