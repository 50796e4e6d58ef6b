-- What a client's read and write are, outside the span and in it: `client_calls`, for their proofs.
use Prim.Native.Nat.{ℕ}
use mathlib.Core.Path.{◌≡◌, refl}
use mathlib.Core.Bool.{false, cond}
use mathlib.Core.List.{List}
use Rattle.std.specs.Prelude.{Err}
use Rattle.base.specs.declared.Refusal.{Refusal}
use Rattle.base.specs.declared.Refusal.TheVariants.{OutsideSpan, NotSound}
use Rattle.base.specs.Refusals.{refusal_number, refusals, refusal_with}
use Rattle.base.proofs.Booleans.{by_test}
use Rattle.medium.specs.declared.Geometry.{Geometry}
use Rattle.medium.specs.Medium.{Observations, no_store, apply}
use Rattle.volume.specs.declared.Volume.{Volume}
use Rattle.volume.specs.Calls.{Outcome, refused}
use Rattle.volume.specs.Sound.{sound}
use Rattle.spans.specs.declared.Spans.{Spans}
use Rattle.spans.specs.Spans.{allowed}
use Rattle.clients.specs.ClientCalls.{client_read, client_write}
use Rattle.clients.proofs.ClientSpans.{read_1, write_1, read_21, write_21}
pub use Rattle.clients.proofs.ClientSpans.{read_own, write_own}

-- the refusal of a call outside the span
abbrev pub outside_refusal : (v : Volume) → Refusal
outside_refusal v = cond (sound v) OutsideSpan NotSound

abbrev pub refused_outside : (v : Volume) (piece : List ℕ) → Outcome
refused_outside v piece = record { reply = record { state = v; answer = Err (outside_refusal v) }; store = no_store; piece = piece }

module _ (t : Spans) (client : ℕ) (v : Volume) (x : ℕ) (piece : List ℕ) (o : Observations) where
  pub read_refused : allowed t client x ≡ false → client_read t client v x piece o ≡ refused_outside v piece
  unfolding refused refusal_with refusals refusal_number
  read_refused e = by_test (sound v) (λ s. rw s (read_21 t client v x piece o s e)) (λ s. rw s (read_1 t client v x piece o s))

  pub write_refused : allowed t client x ≡ false → client_write t client v x piece o ≡ refused_outside v piece
  unfolding refused refusal_with refusals refusal_number
  write_refused e = by_test (sound v) (λ s. rw s (write_21 t client v x piece o s e)) (λ s. rw s (write_1 t client v x piece o s))

pub nothing_stored : (g : Geometry) (m : List ℕ) → apply g no_store m ≡ m
unfolding apply
nothing_stored g m = refl

pub ruleset client_calls = (read_refused, read_own, write_refused, write_own, nothing_stored)
