-- The table of spreads and the counterexamples, by computing; the racks of the data sheet, by the closed form of a growth's moves.
use Rattle.std.proofs.Common.{◌≡◌, ℕ, zero, suc, ◌+◌, ◌-◌, ◌*◌, ◌/◌, ◌%◌, ◌<◌, Bool, true, false, eqb, List, [], ◌∷◌, ◌++◌, map, sym, refl, ap, ◌∙◌, true≢false, not-suc-le-zero, mod-lt, arith, eq-eqb, eqb-true}
use mathlib.Core.List.{Mem, mem-cons_self, mem-map_of_mem}
use borrow.Author.Tests.{eqb-false}
use Rattle.base.proofs.Counting.{every_use, every_make}
use Rattle.base.proofs.Lists.{get_d_table, mem_joined}
use Rattle.base.specs.Below.{count, every, sum, joined, table}
use Rattle.layout.specs.Growth.{minus_mod, moves, part_of, new_disk, disk_after, moves_from, old_block_spot, added_disk, added_spot, spot_after}
use Rattle.layout.specs.History.{disk_count, earlier, old_count, added_count, rising, spot_of}
use Rattle.layout.specs.Windows.{windows, window_of_row, old_spot, moving, window_of, moving_in, uncopied, calls_left, cut_moves}
use Rattle.layout.specs.Spreads.{disk_of, in_window, in_first_windows, on_disk, on_another_disk, OnEachDisk, part_of_uncopied, restriped, restripe_moves}
use Rattle.layout.specs.FewestCases.{all_spreads, has_on_each, even_moves, least_of, times_in, least_case, worked, SpreadsHold, Rack, Racks}
use Rattle.layout.specs.FewestMoves.{WindowSpreadOf, FewestInGrowth, two_to_three, another, uneven, Counterexamples, CasesTrue}
use Rattle.layout.specs.Limits.{most_rows}
use Rattle.layout.proofs.NewestGrowth.{up, old_some}
use Rattle.layout.proofs.MoveCounts.{growth_law}
use Rattle.layout.proofs.FewestMoves.{fewest_law, restripe_law}

-- unfolded, it opens what the computations below share
unfoldable opened : Unit {0}
unfolding has_on_each on_disk on_another_disk part_of_uncopied uncopied restriped restripe_moves count every sum joined table moving moving_in moves_from moves window_of window_of_row old_spot spot_of spot_after old_block_spot added_spot added_disk disk_after new_disk part_of minus_mod old_count added_count earlier disk_count
opened = tt

pub spreads_hold : SpreadsHold
unfolding opened worked least_case times_in least_of even_moves all_spreads
spreads_hold = refl

-- ---- what the cases are of

all_listed : (disks blocks : ℕ) (f : ℕ → ℕ) → ((x : ℕ) → x < blocks → f x < disks) → Mem (table f blocks) (all_spreads disks blocks)
unfolding table all_spreads
all_listed disks zero f h = mem-cons_self
all_listed disks (suc blocks) f h =
    mem_joined (λ d. map (λ l. l ++ (d ∷ [])) (all_spreads disks blocks)) disks (f blocks) (table f blocks ++ (f blocks ∷ [])) (h blocks (omega arith))
    (mem-map_of_mem (λ l. l ++ (f blocks ∷ [])) (all_listed disks blocks f (λ x l. h x (omega arith))))

tested : (s : ℕ) (h : List ℕ) (chosen : ℕ → Bool) (each : ℕ) (f : ℕ → ℕ) → has_on_each s h chosen each f ≡ true → OnEachDisk s h chosen each f
unfolding has_on_each
tested s h chosen each f e d l = eqb-true _ each (every_use _ (old_count h + added_count h) e d l)

pub cases_true_law : CasesTrue
unfolding has_on_each
cases_true_law =
    record {
      all_listed = all_listed;
      as_listed = λ blocks f x l. get_d_table 0 f blocks x l;
      tested = tested;
      passes = λ s h chosen each f e. every_make _ (old_count h + added_count h) (λ d l. eq-eqb _ each (e d l));
    }

-- ---- counterexamples

two_to_three_law : FewestInGrowth 3 two_to_three
unfolding rising
two_to_three_law = fewest_law 3 3 2 [] refl

on_each : (f : ℕ → ℕ) (each : ℕ)
    → has_on_each 3 two_to_three (in_window 3 two_to_three 0) each f ≡ true → OnEachDisk 3 two_to_three (in_window 3 two_to_three 0) each f
on_each f each = tested 3 two_to_three (in_window 3 two_to_three 0) each f

-- a spread with another number on a disk
uneven_out : (s w : ℕ) (f : ℕ → ℕ) (d : ℕ) → d < 3 → eqb (on_disk s two_to_three (in_window s two_to_three w) f d) 2 ≡ false → WindowSpreadOf s two_to_three w f → ⊥
unfolding old_count added_count earlier disk_count
uneven_out s w f d l e c = eqb-false _ 2 e (c.even d l)

restripe_rows : restripe_moves 2 1 4 ≡ 6
unfolding opened
restripe_rows = refl

pub counterexamples_law : Counterexamples
unfolding opened rising
counterexamples_law =
    record {
      another_passes =
          record {
            blocks = (two_to_three_law.window_spread 0 (omega arith)).blocks;
            is_spread = (two_to_three_law.window_least 0 (omega arith)).is_spread another (on_each another 2 refl);
            even = on_each another 2 refl;
            moved = refl;
          };
      uneven_moves = refl;
      uneven_fails = uneven_out 3 0 uneven 0 (omega arith) refl;
      round_robin_even = on_each (λ x. x % 3) 2 refl;
      round_robin_fails = λ c. eqb-false 4 2 refl c.moved;
      before_is_history = refl;
      cut_fails = uneven_out 1 0 (disk_of 1 two_to_three) 0 (omega arith) refl;
      cut_alone = refl;
      each_needed = λ g. not-suc-le-zero (g (λ x. x % 2) (λ x l e. let h : x % 2 < 2 = mod-lt x (omega arith) in omega (arith, h)));
      spread_needed = on_each (λ x. 3) 0 refl;
      together_even = tested 4 (2 ∷ 1 ∷ []) (in_first_windows 4 (2 ∷ 1 ∷ []) 2) 2 (λ x. x / 2) refl;
      each_uneven = λ e. eqb-false 2 1 refl (e 0 (omega arith));
      row_left = refl;
      part_other = λ e. eqb-false 2 4 refl e;
      part_missing = λ e. eqb-false 9 6 refl e;
      cut_less = λ e. eqb-false 3 6 refl e;
      no_start = λ e. true≢false (sym e);
      no_next = λ e. true≢false (sym e);
      restripe_less = λ e. eqb-false 4 6 refl e;
      restripe_none = refl;
      restripe_rows = restripe_rows;
    }

-- ---- racks

-- the moves of a growth from m disks to c, with s rows, in closed form
abbrev moves_in : (s m c : ℕ) → ℕ
moves_in s m c = s / (m + (c - m)) * (m * (c - m)) + cut_moves m (c - m) (s % (m + (c - m)))

at_grow : (s m c : ℕ) → rising (c ∷ m ∷ []) ≡ true → uncopied s (c ∷ m ∷ []) 0 (λ x. false) ≡ moves_in s m c
unfolding old_count added_count earlier disk_count
at_grow s m c r = sym (growth_law s c m [] r).at_start ∙ (growth_law s c m [] r).in_windows

rack : (m c : ℕ) → rising (c ∷ m ∷ []) ≡ true
    → Rack m c (moves_in most_rows m c) (moves_in most_rows m c + windows m (c - m) most_rows - 0) (m * most_rows - m)
unfolding calls_left old_count added_count earlier disk_count
rack m c r =
    record {
      moves_at_grow = at_grow most_rows m c r;
      calls_told = ap (λ u. u + windows m (c - m) most_rows - 0) (at_grow most_rows m c r);
      restripe_moves_law = restripe_law m (c - m) most_rows (old_some most_rows c m [] r) (omega (arith, up most_rows c m [] r));
    }

pub racks_hold : Racks
unfolding rising cut_moves sum windows
racks_hold = record { three_to_five_law = rack 3 5 refl; four_to_eight = rack 4 8 refl; eight_to_twelve = rack 8 12 refl }
