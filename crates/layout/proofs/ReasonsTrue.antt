-- The reason that is told of a block is true, and no other is; the same of a tally's live spots.
use Rattle.std.proofs.Common.{◌≡◌, ℕ, suc, ◌-◌, ◌*◌, ◌<◌, ◌≤◌, Bool, true, false, cond, ltb, List, [], ◌∷◌, length, sym, refl, ap, ◌∙◌, subst, arith, ltb-false, ltb-true, le-ltb, lt-ltb}
use native.Mathlib.Decide.{ℕ_discrete}
use Rattle.layout.specs.declared.Reason.{Reason}
use Rattle.layout.specs.declared.Reason.TheVariants.{SetOut, AddedBy, MovedBy}
use Rattle.layout.specs.declared.Spot.{Spot}
use Rattle.layout.specs.Growth.{moves_from, change_of}
use Rattle.layout.specs.History.{disk_count, earlier, old_count, added_count, rising, spot_of}
use Rattle.layout.specs.Windows.{old_spot, moving, part_moved}
use Rattle.layout.specs.Reasons.{reason_after, reason_of, growth_told, first_growths}
use Rattle.layout.specs.Laws.{UnchangedSince, AddedTrue, MovedTrue, ReasonTrue}
use Rattle.base.proofs.Booleans.{by_test}
use Rattle.layout.proofs.Histories.{not_rising, rising_earlier, all_growths, without_newest}
use Rattle.layout.proofs.NewestGrowth.{old_within, still_there, moving_old, moving_moves, moving_law}

-- ---- spots that no growth has changed since

unchanged_newest : (s : ℕ) (h : List ℕ) (x k : ℕ) → length h ≤ suc k → UnchangedSince s h x k
unfolding UnchangedSince
unchanged_newest s h x k e j l u = rw (all_growths j h (omega arith))

module _ (s c : ℕ) (h : List ℕ) (x : ℕ) (e : spot_of s (c ∷ h) x ≡ spot_of s h x) where
  unchanged_after : (k : ℕ) → UnchangedSince s h x k → UnchangedSince s (c ∷ h) x k
  unfolding UnchangedSince
  unchanged_after k t j l u =
      elim (ℕ_discrete j (length h)) [
        | yes a ↦ rw (all_growths j (c ∷ h) (omega (arith, a)))
        | no a ↦ rw (without_newest j c h (omega (arith, a))) (t j l (omega (arith, a)) ∙ sym e)
      ]

  unchanged_before : (k : ℕ) → UnchangedSince s (c ∷ h) x k → UnchangedSince s h x k
  unfolding UnchangedSince
  unchanged_before k t j l u = ap (λ g. spot_of s g x) (sym (without_newest j c h u)) ∙ t j l (omega arith) ∙ e

-- a reason that is true of one history is true of another one with the same growths up to the one told
same_growths : (s : ℕ) (g h : List ℕ) (x : ℕ) (r : Reason) → growth_told r < length h
    → ((j : ℕ) → j ≤ growth_told r → first_growths j g ≡ first_growths j h)
    → (UnchangedSince s g x (growth_told r) → UnchangedSince s h x (growth_told r)) → ReasonTrue s g x r → ReasonTrue s h x r
unfolding ReasonTrue growth_told
same_growths s g h x SetOut l a u t =
    record { there_at_format = subst (λ i. x < disk_count i * s) (a 0 (omega arith)) t.there_at_format; unchanged = u t.unchanged }
same_growths s g h x (AddedBy k) l a u t =
    record {
      growth_made = (t.growth_made.0, l);
      added_from = subst (λ i. disk_count i * s ≤ x) (a (k - 1) (omega arith)) t.added_from;
      added_below = subst (λ i. x < disk_count i * s) (a k (omega arith)) t.added_below;
      unchanged = u t.unchanged;
    }
same_growths s g h x (MovedBy k part) l a u t =
    record {
      growth_made = (t.growth_made.0, l);
      moved = subst (λ i. moving s i x ≡ true) (a k (omega arith)) t.moved;
      its_part = subst (λ i. part_moved s i x ≡ part) (a k (omega arith)) t.its_part;
      unchanged = u t.unchanged;
    }

-- the growth told is one of the history
growth_below : (s c : ℕ) (h : List ℕ) (x : ℕ) (r : Reason) → ReasonTrue s (c ∷ h) x r → growth_told r < suc (length h)
unfolding ReasonTrue growth_told
growth_below s c h x SetOut t = omega arith
growth_below s c h x (AddedBy k) t = t.growth_made.1
growth_below s c h x (MovedBy k part) t = t.growth_made.1

unchanged_of : (s : ℕ) (h : List ℕ) (x : ℕ) (r : Reason) → ReasonTrue s h x r → UnchangedSince s h x (growth_told r)
unfolding ReasonTrue growth_told
unchanged_of s h x SetOut t = t.unchanged
unchanged_of s h x (AddedBy k) t = t.unchanged
unchanged_of s h x (MovedBy k part) t = t.unchanged

-- a block that is there, and the reason told of it
abbrev Told : (s : ℕ) (h : List ℕ) (x : ℕ) (q : Reason) → Type 0
Told s h x q = (x < disk_count h * s) × (q ≡ reason_of s h x)

told_at_format : (s c x : ℕ) (q : Reason) → ReasonTrue s (c ∷ []) x q → Told s (c ∷ []) x q
unfolding ReasonTrue reason_of
told_at_format s c x SetOut t = (subst (λ g. x < disk_count g * s) (all_growths 0 (c ∷ []) (omega arith)) t.there_at_format, refl)
told_at_format s c x (AddedBy k) t = absurd (omega (arith, t.growth_made.0, t.growth_made.1))
told_at_format s c x (MovedBy k part) t = absurd (omega (arith, t.growth_made.0, t.growth_made.1))

-- ---- the newest growth, from m disks to c

module _ (s c m : ℕ) (h : List ℕ) (r : rising (c ∷ m ∷ h) ≡ true) (x : ℕ) where
  pub reason_stays : x < m * s → moving s (c ∷ m ∷ h) x ≡ false → reason_of s (c ∷ m ∷ h) x ≡ reason_of s (m ∷ h) x
  unfolding reason_of reason_after change_of moving old_spot old_count added_count earlier disk_count
  reason_stays k e = let f : moves_from m (c - m) (spot_of s (m ∷ h) x) ≡ false = (rw (lt-ltb x (m * s) k) at e) in rw (lt-ltb x (m * s) k, f)

  pub reason_moved : moving s (c ∷ m ∷ h) x ≡ true → reason_of s (c ∷ m ∷ h) x ≡ MovedBy (suc (length h)) (part_moved s (c ∷ m ∷ h) x)
  unfolding reason_of reason_after change_of part_moved old_spot old_count added_count earlier disk_count
  reason_moved e = rw (lt-ltb x (m * s) (moving_old s c m h r x e), moving_moves s c m h r x e)

  pub reason_added : m * s ≤ x → reason_of s (c ∷ m ∷ h) x ≡ AddedBy (suc (length h))
  unfolding reason_of reason_after change_of
  reason_added k = rw (le-ltb x (m * s) k)

  -- a block that moves changes its spot
  pub moved_elsewhere : moving s (c ∷ m ∷ h) x ≡ true → spot_of s (c ∷ m ∷ h) x ≡ spot_of s (m ∷ h) x → ⊥
  unfolding old_count earlier disk_count
  moved_elsewhere e f =
      let there = (moving_law s c m h r).to_added_disk x e in
      let before = old_within s c m h r x (moving_old s c m h r x e) in
      let d : (spot_of s (c ∷ m ∷ h) x).disk ≡ (spot_of s (m ∷ h) x).disk = ap (λ (p : Spot). p.disk) f in
      omega (arith, there.0, before.disk, d)

  -- the reasons that are true of the growths before are true of all, where the spot is left
  true_after : spot_of s (c ∷ m ∷ h) x ≡ spot_of s (m ∷ h) x → (q : Reason) → ReasonTrue s (m ∷ h) x q → ReasonTrue s (c ∷ m ∷ h) x q
  true_after e q t =
      let l = growth_below s m h x q t in
      same_growths s (m ∷ h) (c ∷ m ∷ h) x q (omega (arith, l)) (λ j k. sym (without_newest j c (m ∷ h) (omega (arith, l))))
      (unchanged_after s c (m ∷ h) x e (growth_told q)) t

  true_before : spot_of s (c ∷ m ∷ h) x ≡ spot_of s (m ∷ h) x → (q : Reason) → growth_told q < suc (length h) → ReasonTrue s (c ∷ m ∷ h) x q → ReasonTrue s (m ∷ h) x q
  true_before e q l t =
      same_growths s (c ∷ m ∷ h) (m ∷ h) x q l (λ j k. without_newest j c (m ∷ h) (omega (arith, l)))
      (unchanged_before s c (m ∷ h) x e (growth_told q)) t

  -- all growths, and all but the newest
  whole : first_growths (suc (length h)) (c ∷ m ∷ h) ≡ c ∷ m ∷ h
  whole = all_growths (suc (length h)) (c ∷ m ∷ h) (omega arith)

  before_newest : first_growths (suc (length h) - 1) (c ∷ m ∷ h) ≡ m ∷ h
  before_newest =
      let e : suc (length h) - 1 ≡ length h = omega arith in
      rw e (without_newest (length h) c (m ∷ h) (omega arith) ∙ all_growths (length h) (m ∷ h) (omega arith))

  -- ---- the reason told is true

  moved_true : moving s (c ∷ m ∷ h) x ≡ true → MovedTrue s (c ∷ m ∷ h) x (suc (length h)) (part_moved s (c ∷ m ∷ h) x)
  moved_true e =
      record {
        growth_made = (omega arith, omega arith);
        moved = rw whole e;
        its_part = rw whole;
        unchanged = unchanged_newest s (c ∷ m ∷ h) x (suc (length h)) (omega arith);
      }

  added_true : m * s ≤ x → x < c * s → AddedTrue s (c ∷ m ∷ h) x (suc (length h))
  unfolding disk_count
  added_true k l =
      record {
        growth_made = (omega arith, omega arith);
        added_from = rw before_newest k;
        added_below = rw whole l;
        unchanged = unchanged_newest s (c ∷ m ∷ h) x (suc (length h)) (omega arith);
      }

  newest_true : (x < m * s → ReasonTrue s (m ∷ h) x (reason_of s (m ∷ h) x)) → x < c * s → ReasonTrue s (c ∷ m ∷ h) x (reason_of s (c ∷ m ∷ h) x)
  unfolding ReasonTrue old_count old_spot earlier disk_count
  newest_true before l =
      by_test (ltb x (m * s))
      (λ a. let k = ltb-true x (m * s) a in
      by_test (moving s (c ∷ m ∷ h) x) (λ e. rw (reason_moved e) (moved_true e))
      (λ e. rw (reason_stays k e) (true_after ((moving_law s c m h r).stays x k e) (reason_of s (m ∷ h) x) (before k))))
      (λ a. let k = ltb-false x (m * s) a in rw (reason_added k) (added_true k l))

  -- ---- and no other one is

  -- it speaks of the newest growth
  told_by_newest : (q : Reason) → growth_told q ≡ suc (length h) → ReasonTrue s (c ∷ m ∷ h) x q → Told s (c ∷ m ∷ h) x q
  unfolding ReasonTrue growth_told disk_count
  told_by_newest SetOut e t = absurd (omega (arith, e))
  told_by_newest (AddedBy k) e t =
      let u : AddedTrue s (c ∷ m ∷ h) x (suc (length h)) = subst (AddedTrue s (c ∷ m ∷ h) x) e t in (
        subst (λ g. x < disk_count g * s) whole u.added_below,
        ap AddedBy e ∙ sym (reason_added (subst (λ g. disk_count g * s ≤ x) before_newest u.added_from)),
      )
  told_by_newest (MovedBy k part) e t =
      let u : MovedTrue s (c ∷ m ∷ h) x (suc (length h)) part = subst (λ i. MovedTrue s (c ∷ m ∷ h) x i part) e t in
      let f : moving s (c ∷ m ∷ h) x ≡ true = subst (λ g. moving s g x ≡ true) whole u.moved in
      let p : part_moved s (c ∷ m ∷ h) x ≡ part = subst (λ g. part_moved s g x ≡ part) whole u.its_part in (
        still_there s c m h r x (moving_old s c m h r x f),
        rw (e, ← p) (sym (reason_moved f)),
      )

  -- or of one before
  told_before : (q : Reason) → growth_told q < suc (length h) → ReasonTrue s (c ∷ m ∷ h) x q → (ReasonTrue s (m ∷ h) x q → Told s (m ∷ h) x q)
      → Told s (c ∷ m ∷ h) x q
  unfolding UnchangedSince disk_count
  told_before q l t before =
      let left : spot_of s (c ∷ m ∷ h) x ≡ spot_of s (m ∷ h) x =
      sym (unchanged_of s (c ∷ m ∷ h) x q t (suc (length h) - 1) (omega (arith, l)) (omega arith)) ∙ ap (λ g. spot_of s g x) before_newest in
      let told = before (true_before left q l t) in
      by_test (moving s (c ∷ m ∷ h) x) (λ e. absurd (moved_elsewhere e left))
      (λ e. (still_there s c m h r x told.0, told.1 ∙ sym (reason_stays told.0 e)))

pub reasons_law : (s : ℕ) (h : List ℕ) (x : ℕ) → rising h ≡ true → x < disk_count h * s → ReasonTrue s h x (reason_of s h x)
unfolding ReasonTrue reason_of disk_count
reasons_law s [] x r l = absurd (not_rising r)
reasons_law s (c ∷ []) x r l =
    record { there_at_format = rw (all_growths 0 (c ∷ []) (omega arith)) l; unchanged = unchanged_newest s (c ∷ []) x 0 (omega arith) }
reasons_law s (c ∷ m ∷ h) x r l = newest_true s c m h r x (reasons_law s (m ∷ h) x (rising_earlier c m h r)) l

reason_told_law : (s : ℕ) (h : List ℕ) (x : ℕ) → rising h ≡ true → (q : Reason) → ReasonTrue s h x q → Told s h x q
reason_told_law s [] x r q t = absurd (not_rising r)
reason_told_law s (c ∷ []) x r q t = told_at_format s c x q t
reason_told_law s (c ∷ m ∷ h) x r q t =
    elim (ℕ_discrete (growth_told q) (suc (length h))) [
      | yes a ↦ told_by_newest s c m h r x q a t
      | no a ↦ told_before s c m h r x q (omega (arith, a, growth_below s c (m ∷ h) x q t)) t (reason_told_law s (m ∷ h) x (rising_earlier c m h r) q)
    ]

pub only_reason_law : (s : ℕ) (h : List ℕ) (x : ℕ) → rising h ≡ true → (q r : Reason) → ReasonTrue s h x q → ReasonTrue s h x r → q ≡ r
only_reason_law s h x a q r t u = (reason_told_law s h x a q t).1 ∙ sym (reason_told_law s h x a r u).1

-- while the newest growth runs: the reason told of an old block, by all growths where it is at its new spot, else by all but the newest
pub live_reasons_law : (s c m : ℕ) (h : List ℕ) → rising (c ∷ m ∷ h) ≡ true → (t : Bool) (x : ℕ) → x < m * s
    → ReasonTrue s (cond t (c ∷ m ∷ h) (m ∷ h)) x (reason_of s (cond t (c ∷ m ∷ h) (m ∷ h)) x)
unfolding disk_count
live_reasons_law s c m h r true x k = reasons_law s (c ∷ m ∷ h) x r (still_there s c m h r x k)
live_reasons_law s c m h r false x k = reasons_law s (m ∷ h) x (rising_earlier c m h r) k
