-- A client's call: 21, or the volume's own call.
use Prim.Native.Nat.{ℕ}
use mathlib.Core.Path.{◌≡◌, refl, sym, ap, ◌∙◌, subst}
use mathlib.Core.Bool.{Bool, true, false, false≢true}
use mathlib.Core.List.{List}
use mathlib.Core.Logic.{◌≢◌}
use native.Mathlib.Omega.{arith}
use lib.Dec.{eqb}
use borrow.Author.Tests.{eqb-true, eqb-false}
use lib.ListN.{length}
use Rattle.base.specs.Refusals.{refusal, row_after}
use Rattle.base.proofs.Booleans.{by_test, clash}
use Rattle.base.proofs.Refusals.{row_passes}
use Rattle.medium.specs.Medium.{Observations}
use Rattle.volume.specs.declared.Volume.{Volume}
use Rattle.volume.specs.Answers.{accepted}
use Rattle.volume.specs.Calls.{Outcome, refused, judged, read_table, read_effect, read_outcome, write_table, write_effect, write_outcome}
use Rattle.volume.specs.Sound.{sound}
use Rattle.volume.proofs.Judged.{refused_when, same_judged}
use Rattle.spans.specs.declared.Spans.{Spans}
use Rattle.spans.specs.Spans.{allowed}
use Rattle.spans.proofs.Theorems.{span_laws}
use Rattle.clients.specs.ClientCalls.{span_row, client_read_table, client_write_table, client_read, client_write}

-- a call whose table gives k
refused_by : (k : ℕ) (table : List (ℕ × Bool)) (v : Volume) (piece : List ℕ) (out : Outcome) → refusal table ≡ k → k ≢ 0
    → judged table (λ n. refused v n piece) out ≡ refused v k piece
refused_by k table v piece out e n =
    refused_when table (λ n. refused v n piece) out (λ z. n (sym e ∙ z)) ∙ ap (λ (n : ℕ). refused v n piece) e

module _ (t : Spans) (client : ℕ) (v : Volume) (x : ℕ) (piece : List ℕ) (o : Observations) where
  -- what an allowed client's call does is the volume's own call
  module _ (ok : allowed t client x ≡ true) where
    pub read_own : client_read t client v x piece o ≡ read_outcome v x piece o
    unfolding client_read client_read_table read_outcome span_row
    read_own = rw ok (same_judged (row_after 1 (21, false) (read_table v x (length piece) o.byte_count)) (read_table v x (length piece) o.byte_count) (λ k. refused v k piece) (read_effect v x o) (row_passes 1 21 _))

    pub write_own : client_write t client v x piece o ≡ write_outcome v x piece o
    unfolding client_write client_write_table write_outcome span_row
    write_own = rw ok (same_judged (row_after 1 (21, false) (write_table v x (length piece) o.byte_count)) (write_table v x (length piece) o.byte_count) (λ k. refused v k piece) (write_effect v x piece) (row_passes 1 21 _))

  -- 21 is tested after 1 and before 2
  module _ (is_sound : sound v ≡ true) (no : allowed t client x ≡ false) where
    pub read_21 : client_read t client v x piece o ≡ refused v 21 piece
    unfolding client_read
    read_21 = refused_by 21 (client_read_table t client v x (length piece) o.byte_count) v piece (read_effect v x o) (unfold client_read_table read_table row_after span_row refusal in rw (is_sound, no) refl) (λ e. omega arith)

    pub write_21 : client_write t client v x piece o ≡ refused v 21 piece
    unfolding client_write
    write_21 = refused_by 21 (client_write_table t client v x (length piece) o.byte_count) v piece (write_effect v x piece) (unfold client_write_table write_table row_after span_row refusal in rw (is_sound, no) refl) (λ e. omega arith)

  module _ (unsound : sound v ≡ false) where
    pub read_1 : client_read t client v x piece o ≡ refused v 1 piece
    unfolding client_read
    read_1 = refused_by 1 (client_read_table t client v x (length piece) o.byte_count) v piece (read_effect v x o) (unfold client_read_table read_table row_after span_row refusal in rw unsound refl) (λ e. omega arith)

    pub write_1 : client_write t client v x piece o ≡ refused v 1 piece
    unfolding client_write
    write_1 = refused_by 1 (client_write_table t client v x (length piece) o.byte_count) v piece (write_effect v x piece) (unfold client_write_table write_table row_after span_row refusal in rw unsound refl) (λ e. omega arith)

-- a read that is accepted is in the client's span
is_not : (out : Outcome) (v : Volume) (k : ℕ) (piece : List ℕ) → out ≡ refused v k piece → accepted out.reply.answer ≡ true → ⊥
unfolding accepted refused
is_not out v k piece e a = false≢true (ap (λ (out : Outcome). accepted out.reply.answer) (sym e) ∙ a)

pub accepted_span : (t : Spans) (client : ℕ) (v : Volume) (x : ℕ) (piece : List ℕ) (o : Observations)
    → accepted (client_read t client v x piece o).reply.answer ≡ true → allowed t client x ≡ true
accepted_span t client v x piece o a =
    by_test (allowed t client x) (λ e. e)
    (λ e. absurd (by_test (sound v) (λ s. is_not _ v 21 piece (read_21 t client v x piece o s e) a)
    (λ s. is_not _ v 1 piece (read_1 t client v x piece o s) a)))

-- ---- a block is one client's

-- one that a client may use no other may
pub other_span : (t : Spans) (k client x : ℕ) → allowed t k x ≡ true → eqb k client ≡ false → allowed t client x ≡ false
other_span t k client x e n = by_test (allowed t client x) (λ f. absurd (eqb-false k client n (span_laws.allowed_one t k client x e f))) (λ f. f)

pub own_span : (t : Spans) (k client x : ℕ) → allowed t k x ≡ true → eqb k client ≡ true → allowed t client x ≡ true
own_span t k client x e n = subst (λ (j : ℕ). allowed t j x ≡ true) (eqb-true k client n) e

pub outside_span : (t : Spans) (k client x : ℕ) → allowed t k x ≡ false → eqb k client ≡ true → allowed t client x ≡ true → ⊥
outside_span t k client x e n f = clash (subst (λ (j : ℕ). allowed t j x ≡ true) (sym (eqb-true k client n)) f) e
