-- Histories whose disk counts rise, and the first growths of a history.
use Rattle.std.proofs.Common.{◌≡◌, ℕ, suc, ◌-◌, ◌<◌, ◌≤◌, true, ltb, List, [], ◌∷◌, length, refl, arith, ltb-true, leb-true}
use mathlib.Core.Bool.{false≢true}
use Rattle.layout.specs.History.{disk_count, earlier, old_count, rising}
use Rattle.layout.specs.Reasons.{first_growths}
use Rattle.base.proofs.Booleans.{and_left, and_right}

pub not_rising : rising [] ≡ true → ⊥
unfolding rising
not_rising e = false≢true e

pub rising_up : (c m : ℕ) (h : List ℕ) → rising (c ∷ m ∷ h) ≡ true → m < c
unfolding rising
rising_up c m h e = ltb-true m c (and_left (ltb m c) (rising (m ∷ h)) e)

pub rising_earlier : (c m : ℕ) (h : List ℕ) → rising (c ∷ m ∷ h) ≡ true → rising (m ∷ h) ≡ true
unfolding rising
rising_earlier c m h e = and_right (ltb m c) (rising (m ∷ h)) e

pub rising_some : (c : ℕ) (h : List ℕ) → rising (c ∷ h) ≡ true → 0 < c
unfolding rising
rising_some c [] e = leb-true 1 c e
rising_some c (m ∷ h) e = omega (arith, rising_up c m h e)

-- the history before its newest growth, of one that has a growth
pub rising_before : (h : List ℕ) → rising h ≡ true → 0 < old_count h → rising (earlier h) ≡ true
unfolding old_count earlier disk_count
rising_before [] r g = absurd (not_rising r)
rising_before (c ∷ []) r g = absurd (omega arith)
rising_before (c ∷ m ∷ h) r g = rising_earlier c m h r

-- no history is empty
pub rising_length : (h : List ℕ) → rising h ≡ true → 0 < length h
rising_length [] r = absurd (not_rising r)
rising_length (c ∷ h) r = omega arith

-- ---- the first growths of a history

pub earlier_length : (h : List ℕ) → length (earlier h) ≡ length h - 1
unfolding earlier
earlier_length [] = refl
earlier_length (c ∷ h) = omega arith

pub all_growths : (k : ℕ) (h : List ℕ) → length h ≤ suc k → first_growths k h ≡ h
unfolding first_growths
all_growths k h l = let e : length h - suc k ≡ 0 = omega arith in rw e

pub without_newest : (k c : ℕ) (h : List ℕ) → k < length h → first_growths k (c ∷ h) ≡ first_growths k h
unfolding first_growths
without_newest k c h l = let e : suc (length h) - suc k ≡ suc (length h - suc k) = omega arith in rw e
