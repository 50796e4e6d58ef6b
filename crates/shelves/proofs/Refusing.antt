-- The number that an answer tells.
use Prim.Native.Nat.{ℕ}
use mathlib.Core.Path.{◌≡◌, refl, sym, ◌∙◌}
use mathlib.Core.Bool.{true}
use mathlib.Core.Logic.{◌≢◌, inl, inr}
use native.Mathlib.Omega.{arith}
use Rattle.std.specs.Prelude.{Err}
use Rattle.base.specs.Refusals.{refusal, refusal_number, refusal_with, refusals}
use Rattle.base.proofs.Refusals.{number_back}
use Rattle.volume.specs.declared.Volume.{Volume}
use Rattle.volume.specs.Answers.{number}
use Rattle.volume.specs.Sound.{sound}
use Rattle.volume.proofs.Judged.{judged_cases}
use Rattle.shelves.specs.Laws.{Fitting, ViewRefuses}
use Rattle.shelves.specs.Views.{ViewAnswer, shelves_table, view_table, view_answer, view_number}
use Rattle.shelves.proofs.Tests.{not_sound, no_disk, many_disks, first_short, second_short, all_fit, shelves_first, not_open, none_refuses}

pub view_told : (v : Volume) (first second k x : ℕ) → view_number (view_answer v first second k x) ≡ refusal (view_table v first second k x)
unfolding view_answer number view_table shelves_table refusal_number refusal_with refusals
view_told v first second k x =
    let table = view_table v first second k x in
    judged_cases (λ (a : ViewAnswer). view_number a ≡ refusal table) table (λ n. Err (refusal_with n)) _ (λ e. sym e) (number_back table refl)

-- the number by the first test that fails
module _ (v : Volume) (first second k x : ℕ) where
  abbrev told : ℕ
  told = view_number (view_answer v first second k x)

  by_shelves : (n : ℕ) → n ≢ 0 → n ≡ refusal (shelves_table v first second k) → told ≡ n
  by_shelves n h e = view_told v first second k x ∙ shelves_first v first second k x (λ z. h (e ∙ z)) ∙ sym e

  shelves_pass : sound v ≡ true → Fitting v first second k → refusal (shelves_table v first second k) ≡ 0
  shelves_pass s f = sym (all_fit v first second k s f)

  by_block : (n : ℕ) → n ≡ refusal (view_table v first second k x) → told ≡ n
  by_block n e = view_told v first second k x ∙ sym e

  pub view_refuses : ViewRefuses v first second k x told
  view_refuses =
      record {
        number_told = view_told v first second k x;
        not_sound = λ s. by_shelves 1 (λ z. omega (arith, z)) (not_sound v first second k s);
        outside = λ s o. by_shelves 8 (λ z. omega (arith, z)) (elim o [
          | inl none ↦ no_disk v first second k s none
          | inr many ↦ many_disks v first second k s (λ z. omega (arith, z, many)) many
        ]);
        too_short = λ s n h o. by_shelves 2 (λ z. omega (arith, z)) (elim o [
          | inl a ↦ first_short v first second k s n h a
          | inr b ↦ second_short v first second k s n h b
        ]);
        not_open = λ s f o. by_block 3 (not_open v first second k x (shelves_pass s f) o);
        accepted = λ s f o. by_block 0 (none_refuses v first second k x (shelves_pass s f) o);
      }
