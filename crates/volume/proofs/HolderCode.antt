-- What holder answers, return by return.
use Prim.Native.Nat.{ℕ}
use mathlib.Core.Path.{◌≡◌, refl, ◌∙◌}
use mathlib.Core.Bool.{true, false, ◌||◌}
use mathlib.Core.Option.{Option, none, some}
use Rattle.std.specs.Prelude.{Result, Ok, Err, cond, ok_or}
use Rattle.base.specs.declared.Refusal.{Refusal}
use Rattle.base.specs.declared.Refusal.TheVariants.{NoSuchSpot, NoBlockThere}
use Rattle.base.specs.Refusals.{refusal, refusal_number, refusals, refusal_with}
use Rattle.base.proofs.Booleans.{cond_cases, neither, by_test}
use Rattle.layout.specs.declared.Block.{Block}
use Rattle.layout.specs.declared.Spot.{Spot}
use Rattle.layout.specs.History.{Within}
use Rattle.layout.specs.Tally.{live_block_of}
use Rattle.marks.specs.Marks.{as_live_block}
use lib.Dec.{eqb, leb}
use borrow.Author.Tests.{leb-false, lt-leb}
use Rattle.volume.specs.declared.Volume.{Volume}
use Rattle.volume.specs.Calls.{is_none, block_found, holder_table, holder_reply}
use Rattle.volume.specs.Sound.{sound}
use Rattle.volume.specs.States.{history_of, disks, tally_of}

-- what is told of a block that lives at a spot, or of none
block_told : (found : Option ℕ) → ok_or (as_live_block found) NoBlockThere ≡ cond (is_none found) (Err NoBlockThere) (Ok (record { 0 = block_found found }))
unfolding as_live_block
block_told none = refl
block_told (some x) = refl

-- the whole reply, from its answer
pub holder_reply_law : (v : Volume) (p : Spot) (a : Result Block Refusal) → a ≡ (holder_reply v p).answer → record { state = v; answer = a } ≡ holder_reply v p
unfolding holder_reply
holder_reply_law v p a e = rw e (cond_cases (λ r. record { state = v; answer = r.answer } ≡ r) (eqb (refusal (holder_table v p)) 0) (λ t. refl) (λ t. refl))

-- what the test of disk and row knows
pub holder_outside : (v : Volume) (p : Spot) → sound v ≡ true → (leb (disks v) p.disk || leb v.rows p.row.0) ≡ true
    → Err NoSuchSpot ≡ (holder_reply v p).answer
unfolding holder_reply holder_table refusal refusal_with refusals refusal_number
holder_outside v p s e = by_test (leb (disks v) p.disk) (λ d. simp (s, d)) (λ d. simp (s, d, rw d at e))

pub spot_within : (v : Volume) (p : Spot) → (leb (disks v) p.disk || leb v.rows p.row.0) ≡ false
    → Within v.rows (history_of v) p
unfolding disks
spot_within v p e =
    let n = neither _ _ e in
    record { disk = leb-false _ _ n.0; row = leb-false _ _ n.1 }

pub holder_told : (v : Volume) (p : Spot) → sound v ≡ true → Within v.rows (history_of v) p
    → ok_or (as_live_block (live_block_of (tally_of v) p)) NoBlockThere ≡ (holder_reply v p).answer
unfolding holder_reply holder_table refusal refusal_with refusals refusal_number disks
holder_told v p s w =
    block_told (live_block_of (tally_of v) p)
    ∙ by_test (is_none (live_block_of (tally_of v) p)) (λ t. simp (s, lt-leb _ _ w.disk, lt-leb _ _ w.row, t))
    (λ f. simp (s, lt-leb _ _ w.disk, lt-leb _ _ w.row, f))
