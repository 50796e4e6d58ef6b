-- Each call of the rack and of the client in one run stands in the other: `calls_stand`.
use Prim.Native.Nat.{ℕ}
use mathlib.Core.Path.{◌≡◌, refl, sym, ap, ◌∙◌}
use mathlib.Core.Bool.{Bool, true, false, cond, true≢false}
use mathlib.Core.List.{List, [], ◌∷◌, ◌++◌}
use Rattle.promise.specs.Lists.{cut_left}
use Rattle.clients.specs.Stations.{StationCall, StationEvent, ends, fails}
use Rattle.clients.specs.TwoRuns.{is_shared, SharedEvent, call, power, shared, CallsStand}

pub shared_append : (client : ℕ) (es fs : List StationEvent) → shared client (es ++ fs) ≡ shared client es ++ shared client fs
unfolding shared
shared_append client [] fs = refl
shared_append client (ends c ∷ es) fs = go (is_shared client c) (shared_append client es fs)
  where
    go : (b : Bool) → shared client (es ++ fs) ≡ shared client es ++ shared client fs
        → cond b (call c ∷ shared client (es ++ fs)) (shared client (es ++ fs)) ≡ cond b (call c ∷ shared client es) (shared client es) ++ shared client fs
    go true e = ap (λ (l : List SharedEvent). call c ∷ l) e
    go false e = e
shared_append client (fails c left ∷ es) fs = ap (λ (l : List SharedEvent). power c (cut_left left) ∷ l) (shared_append client es fs)

module _ (client : ℕ) (c : StationCall) where
  record Found (fs : List StationEvent) (ss : List SharedEvent) : Type 0 where
    before1 : List StationEvent
    rest1 : List StationEvent
    stands : fs ≡ before1 ++ (ends c ∷ rest1)
    same_before : shared client before1 ≡ ss

  none_there : (ss ss1 : List SharedEvent) (c : SharedEvent) → ◌≡◌ {A = List SharedEvent} [] (ss ++ (c ∷ ss1)) → ⊥
  none_there [] ss1 c e = true≢false cc
  none_there (d ∷ ss) ss1 c e = true≢false cc

  -- one event more before it: shared, or not
  one_more : (e : StationEvent) (fs : List StationEvent) (ss ss2 : List SharedEvent) → ((es : List StationEvent) → shared client es ≡ ss → shared client (e ∷ es) ≡ ss2)
      → Found fs ss → Found (e ∷ fs) ss2
  one_more e fs ss ss2 f i =
      record { before1 = e ∷ i.before1; rest1 = i.rest1; stands = ap (λ (l : List StationEvent). e ∷ l) i.stands; same_before = f i.before1 i.same_before }

  find : (fs : List StationEvent) (ss ss1 : List SharedEvent) → shared client fs ≡ ss ++ (call c ∷ ss1) → Found fs ss
  unfolding shared
  find [] ss ss1 e = absurd (none_there ss ss1 _ e)
  find (ends d ∷ fs) ss ss1 e = go (is_shared client d) refl ss e (λ ss e. find fs ss ss1 e)
    where
      go : (b : Bool) → is_shared client d ≡ b → (ss : List SharedEvent)
          → cond b (call d ∷ shared client fs) (shared client fs) ≡ ss ++ (call c ∷ ss1)
          → ((ss : List SharedEvent) → shared client fs ≡ ss ++ (call c ∷ ss1) → Found fs ss) → Found (ends d ∷ fs) ss
      go true q [] e rest =
          let same : d ≡ c = cc in
          record { before1 = []; rest1 = fs; stands = ap (λ (d : StationCall). ends d ∷ fs) same; same_before = unfold shared in refl }
      go true q (h ∷ ss) e rest =
          let head : call d ≡ h = cc in
          let tail : shared client fs ≡ ss ++ (call c ∷ ss1) = cc in
          one_more (ends d) fs ss (h ∷ ss) (λ es f. unfold shared in (rw q (λ i. head i ∷ f i))) (rest ss tail)
      go false q ss e rest = one_more (ends d) fs ss ss (λ es f. unfold shared in (rw q f)) (rest ss e)
  find (fails d left ∷ fs) [] ss1 e = absurd (true≢false cc)
  find (fails d left ∷ fs) (h ∷ ss) ss1 e =
      let head : power d (cut_left left) ≡ h = cc in
      let tail : shared client fs ≡ ss ++ (call c ∷ ss1) = cc in
      one_more (fails d left) fs ss (h ∷ ss) (λ es f i. head i ∷ f i) (find fs ss ss1 tail)

  shared_call : is_shared client c ≡ true → (rest : List StationEvent) → shared client (ends c ∷ rest) ≡ call c ∷ shared client rest
  unfolding shared
  shared_call own rest = rw own refl

pub calls_stand : CallsStand
calls_stand client es fs q before rest c own e =
    let there : shared client fs ≡ shared client before ++ (call c ∷ shared client rest) =
    sym q ∙ ap (shared client) e ∙ shared_append client before (ends c ∷ rest) ∙ ap (λ (l : List SharedEvent). shared client before ++ l) (shared_call client c own rest) in
    let i = find client c fs (shared client before) (shared client rest) there in
    record { before1 = i.before1; rest1 = i.rest1; stands = i.stands; same_before = sym i.same_before }
