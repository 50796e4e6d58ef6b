-- Document 01, "Words and limits": each limit worked out one below it, at it and one above it. `proofs/LimitCases.antt` has the proofs.
use Rattle.std.specs.Prelude.{ℕ, ◌≡◌, Bool, true, false, List, [], ◌∷◌, map}
use Rattle.base.specs.Refusals.{refusal}
use Rattle.volume.specs.declared.Volume.{Volume}
use Rattle.volume.specs.Calls.{grow_table}
use Rattle.volume.specs.Sound.{size_holds, rows_hold, disks_hold, sound}
use Rattle.volume.specs.States.{new_state, with_growth}

-- each number with what the test says of it: worked out, they are the same
abbrev pub Says : (test : ℕ → Bool) (cases : List (ℕ × Bool)) → Type 0
Says test cases = map (λ case. (case.0, test case.0)) cases ≡ cases

-- a volume at rest with one row and these counts, after t growths
abbrev pub grown_by : (t : ℕ) (counts : List ℕ) → Volume
grown_by t counts = with_growth (new_state 512 1 1) t counts 0 0 0 0

abbrev pub six_growths : Volume
six_growths = grown_by 6 (1 ∷ 2 ∷ 3 ∷ 4 ∷ 5 ∷ 6 ∷ 7 ∷ 0 ∷ [])

abbrev pub seven_growths : Volume
seven_growths = grown_by 7 (1 ∷ 2 ∷ 3 ∷ 4 ∷ 5 ∷ 6 ∷ 7 ∷ 8 ∷ [])

-- t = 8: a state has eight counts, so that there is no N[8]
abbrev pub eight_growths : Volume
eight_growths = grown_by 8 (1 ∷ 2 ∷ 3 ∷ 4 ∷ 5 ∷ 6 ∷ 7 ∷ 8 ∷ [])

-- a growth from 15 disks to 16, and to 17
abbrev pub sixteen_disks : Volume
sixteen_disks = grown_by 1 (15 ∷ 16 ∷ 0 ∷ 0 ∷ 0 ∷ 0 ∷ 0 ∷ 0 ∷ [])

abbrev pub seventeen_disks : Volume
seventeen_disks = grown_by 1 (15 ∷ 17 ∷ 0 ∷ 0 ∷ 0 ∷ 0 ∷ 0 ∷ 0 ∷ [])

pub record LimitCases : Type 0 where
  -- Z: "a multiple of 512"
  pub size_steps : Says size_holds
      ((511, false) ∷ (512, true) ∷ (513, false) ∷ (768, false) ∷ (1_024, true) ∷ (65_024, true) ∷ (65_280, false) ∷ [])
  -- "from 512 to 65,536"
  pub size_bounds : Says size_holds ((0, false) ∷ (512, true) ∷ (65_024, true) ∷ (65_535, false) ∷ (65_536, true) ∷ (65_537, false) ∷ (66_048, false) ∷ [])
  -- s: "1 to 1,000,000"
  pub row_bounds : Says rows_hold ((0, false) ∷ (1, true) ∷ (2, true) ∷ (999_999, true) ∷ (1_000_000, true) ∷ (1_000_001, false) ∷ [])
  -- N[0]: "1 to 16"
  pub disk_bounds : Says disks_hold ((0, false) ∷ (1, true) ∷ (2, true) ∷ (15, true) ∷ (16, true) ∷ (17, false) ∷ [])
  -- and N[t]
  pub count_bounds : map sound (sixteen_disks ∷ seventeen_disks ∷ []) ≡ (true ∷ false ∷ [])
  -- t: "0 to 7"
  pub growth_bounds : map sound (new_state 512 1 1 ∷ six_growths ∷ seven_growths ∷ eight_growths ∷ []) ≡ (true ∷ true ∷ true ∷ false ∷ [])
  -- grow: "9, t = 7", on a medium of 8,704 bytes, which is enough for 16 disks; "8, count not above N[t] or above 16"
  pub grow_bounds : map (λ v. refusal (grow_table v 9 8_704)) (six_growths ∷ seven_growths ∷ eight_growths ∷ []) ≡ (0 ∷ 9 ∷ 1 ∷ [])
  pub grow_counts : map (λ count. refusal (grow_table (new_state 512 1 15) count 8_704)) (14 ∷ 15 ∷ 16 ∷ 17 ∷ []) ≡ (8 ∷ 8 ∷ 0 ∷ 8 ∷ [])
