-- What a run leaves, at its two ends: the load refused, or the calls played, each as demand 3 has it. Assumes nothing.
use Rattle.std.proofs.Common.{ℕ, ◌≡◌, refl, sym, ap, ◌∙◌, subst, List, arith, get_or, Result, Ok, Err}
use Rattle.refusal.specs.Answer.{done}
use Rattle.room.specs.declared.Room as room
use Rattle.room.specs.declared.Room.{Room}
use Rattle.play.specs.Bytes.{Lent, test_of, after_load, played, bytes_after}
use Rattle.demands.proofs.Demand3.{demand3}
use Rattle.call_list.specs.Coded.{call_at, calls_of, call_count}
use Rattle.call_list.specs.Run.{played_number, put_first, number_at, if_passed, bytes_run, numbers_run}
use Rattle.call_list.specs.Promise.{RunHolds}
use Rattle.call_list.proofs.RunLaws.{put_at}

abbrev IsRefused : {A : Type 0} → Result A ℕ → Type 0
IsRefused (Ok v) = ⊥
IsRefused (Err k) = Unit {0}

-- a room that passes gives the first
passed : {A : Type 0} {t : Result Room ℕ} {r : room.Room} (x y : A) → t ≡ Ok r → x ≡ if_passed t x y
passed x y e = rw e

module _ (s : List ℕ) (b : Lent) (l old : List ℕ) where
  abbrev n : ℕ
  n = call_count l old

  -- the contract of `run`
  abbrev pub Ran : (answer : Result (Unit {0}) ℕ) (after : Lent) (out : List ℕ) → Type 0
  Ran answer after out =
      (answer ≡ done (test_of s b))
      × ((after ≡ bytes_run s b l n)
      × ((out ≡ numbers_run s b l n old)
      × ((r : room.Room) → test_of s b ≡ Ok r → RunHolds s r b l n out after)))

  module _ (answer : Result (Unit {0}) ℕ) (given : answer ≡ done (test_of s b)) (x : Lent) (session : x.session ≡ (after_load s b).session)
      (pixels : x.pixels ≡ (after_load s b).pixels) (masks : x.masks ≡ (after_load s b).masks) where
    load_is : x ≡ after_load s b
    load_is = λ i. record { session = session i; pixels = pixels i; masks = masks i }

    pub refused-run : (k : ℕ) → answer ≡ Err k → Ran answer x old
    refused-run k was = go (test_of s b) refl
      where
        go : (t : Result Room ℕ) → test_of s b ≡ t → Ran answer x old
        go (Ok r) e = absurd (subst IsRefused (sym was ∙ given ∙ ap done e) tt)
        go (Err k) e = (given, (rw e (load_is ∙ rw e), (rw e, λ r h. absurd (subst IsRefused (sym e ∙ h) tt))))

    module _ (after : Lent) (out : List ℕ) (p : after ≡ played s x (calls_of l n)) (q : out ≡ put_first (played_number s x l) n old) where
      after_is : after ≡ bytes_after s b (calls_of l n)
      after_is = p ∙ ap (λ (w : Lent). played s w (calls_of l n)) load_is

      out_is : out ≡ put_first (number_at s b l) n old
      out_is = q ∙ ap (λ (w : Lent). put_first (played_number s w l) n old) load_is

      held : (r : room.Room) → test_of s b ≡ Ok r → RunHolds s r b l n out after
      held r e =
          record {
            load = demand3.load s b r e;
            call = λ i lt. demand3.call s b r e (calls_of l i) (call_at l i);
            number = λ i lt. ap (λ (w : List ℕ). get_or w i 0) out_is ∙ put_at (number_at s b l) n old (omega arith) i lt;
            left = after_is;
          }

      pub played-run : answer ≡ Ok tt → Ran (Ok tt) after out
      played-run was = go (test_of s b) refl
        where
          go : (t : Result Room ℕ) → test_of s b ≡ t → Ran (Ok tt) after out
          go (Ok r) e =
              let bytes = bytes_after s b (calls_of l n) in
              let numbers = put_first (number_at s b l) n old in
              (sym was ∙ given, (after_is ∙ passed bytes b e, (out_is ∙ passed numbers old e, held)))
          go (Err k) e = absurd (subst IsRefused (sym (given ∙ ap done e) ∙ was) tt)
