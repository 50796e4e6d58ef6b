-- A tally's live spots and why blocks are there, from the laws of its history, and of its growth where one runs.
use Rattle.std.proofs.Common.{◌≡◌, ℕ, ◌*◌, ◌<◌, Bool, true, false, cond, ◌⊎◌, List, refl, ap, subst, inl, inr, true≢false}
use mathlib.Core.Option.{some}
use Rattle.layout.specs.History.{disk_count, earlier, old_count, spot_of, block_at}
use Rattle.layout.specs.Windows.{old_spot}
use Rattle.layout.specs.Live.{at_new_spot, live_spot}
use Rattle.layout.specs.Reasons.{reason_of}
use Rattle.layout.specs.Tally.{Mode, not_growing, growing, is_running, Tally, open_blocks, moved_blocks, live_spot_of, live_block_of, growths_of, live_reason_of}
use Rattle.layout.specs.Laws.{Bijection, LiveSpots, ReasonTrue, LookUps}
use Rattle.base.proofs.Booleans.{cond_cases}
use Rattle.layout.proofs.Bijection.{spot_injective}

-- the reasons told of all blocks of a history are true
abbrev pub Reasons : (s : ℕ) (h : List ℕ) → Type 0
Reasons s h = (x : ℕ) → x < disk_count h * s → ReasonTrue s h x (reason_of s h x)

-- those told of its old blocks are, at their new spots and at their old ones
abbrev pub LiveReasons : (s : ℕ) (h : List ℕ) → Type 0
LiveReasons s h = (new : Bool) (x : ℕ) → x < old_count h * s → ReasonTrue s (cond new h (earlier h)) x (reason_of s (cond new h (earlier h)) x)

module _ (s : ℕ) (h : List ℕ) (w : ℕ) (copied recorded : ℕ → Bool) where
  abbrev tally : Mode → Tally
  tally mode = record { rows = s; counts = h; mode = mode; window = w; copied = copied; recorded = recorded }

  at_rest_law : Bijection s h → Reasons s h → LookUps (tally not_growing)
  unfolding open_blocks live_spot_of live_block_of growths_of live_reason_of
  at_rest_law B R =
      record {
        live_within = B.spot_within;
        live_distinct = spot_injective s h B;
        block_of_live = λ x k. ap some (B.block_of_spot x k);
        live_of_block = λ p x k e.
            let i : block_at s h p ≡ x = cc in
            subst (λ (y : ℕ). (y < disk_count h * s) × (spot_of s h y ≡ p)) i (B.block_within p k, B.spot_of_block p k);
        each_spot_taken = λ m p e. true≢false cc;
        live_growths = λ x. refl;
        all_or_earlier = λ x. inl refl;
        live_reason = R;
      }

  spot_of_choice : (t : Bool) (x : ℕ) → cond t (spot_of s h x) (spot_of s (earlier h) x) ≡ spot_of s (cond t h (earlier h)) x
  spot_of_choice true x = refl
  spot_of_choice false x = refl

  running : LiveSpots s h (moved_blocks (tally growing)) → LiveReasons s h → LookUps (tally growing)
  unfolding open_blocks live_spot_of live_block_of growths_of live_reason_of live_spot old_spot
  running L R =
      record {
        live_within = L.within;
        live_distinct = L.distinct;
        block_of_live = L.block_of_live;
        live_of_block = L.live_of_block;
        each_spot_taken = λ e p f. true≢false e;
        live_growths = λ x. spot_of_choice (at_new_spot s h (moved_blocks (tally growing)) x) x;
        all_or_earlier = λ x.
            cond_cases (λ g. (g ≡ h) ⊎ (g ≡ earlier h)) (at_new_spot s h (moved_blocks (tally growing)) x) (λ e. inl refl) (λ e. inr refl);
        live_reason = λ x. R (at_new_spot s h (moved_blocks (tally growing)) x) x;
      }

  by_mode : (mode : Mode) → Bijection s h → Reasons s h → (is_running mode ≡ true → LiveSpots s h (moved_blocks (tally mode)) × LiveReasons s h)
      → LookUps (tally mode)
  by_mode not_growing B R L = at_rest_law B R
  by_mode growing B R L = running (L refl).0 (L refl).1

pub look_ups_law : (t : Tally) → Bijection t.rows t.counts → Reasons t.rows t.counts
    → (is_running t.mode ≡ true → LiveSpots t.rows t.counts (moved_blocks t) × LiveReasons t.rows t.counts) → LookUps t
look_ups_law t = by_mode t.rows t.counts t.window t.copied t.recorded t.mode
