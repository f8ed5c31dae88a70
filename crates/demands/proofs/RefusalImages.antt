-- Which images of objects are refused with 2 and 5 to 8: SMAP is missing, or the picture is wrong as a room's is.
use Rattle.std.proofs.Common.{◌≡◌, refl, sym, ap, ◌∙◌, subst, true, ◌&&◌, List, ◌⊎◌, inl, inr, ◌↔◌, ℕ, zero, suc, ◌+◌, ◌/◌, ◌≤◌, arith, Option, Some, None, Result, Ok, Err}
use mathlib.Core.Bool.{false≢true}
use Rattle.number.proofs.BoolLaws.{and_right}
use Rattle.block.specs.Tag.{tag-SMAP}
use Rattle.block.specs.Tree.{find_tag, is_at}
use Rattle.table.specs.Test.{number}
use Rattle.room.specs.declared.Room.{Room}
use Rattle.image.specs.Image.{image_width, image_height, image_block, image_count, state_block, is_object, state_right, drawable}
use Rattle.image.specs.Fault.{smap_test, image_test, state_test, image_fault}
use Rattle.scene.specs.Steps.{some}
use Rattle.demands.specs.PictureRefusals.{AllPass}
use Rattle.demands.specs.Refusals.{image_of}
use Rattle.demands.proofs.RefusalTests.{◌then◌, renamed}
use Rattle.demands.proofs.RefusalPictures as picture

found_at : (f : Option (ℕ × ℕ)) → is_at f ≡ true → (b : ℕ) × (z : ℕ) × (f ≡ Some (b, z))
found_at (Some (b, z)) e = (b, z, refl)
found_at None e = absurd (false≢true e)

state_found : (s : List ℕ) (o st : ℕ) → drawable s o st ≡ true → (b : ℕ) × (z : ℕ) × (state_block s o st ≡ Some (b, z))
unfolding drawable
state_found s o st e =
    found_at (state_block s o st) (and_right (is_object s o && is_at (image_block s o) && state_right st (image_count s o)) (is_at (state_block s o st)) e)

module _ (s : List ℕ) (r : Room) (o st : ℕ) where
  abbrev pub fault : Result (Unit {0}) ℕ
  fault = image_fault r.planes s o st

  -- what is wrong with the image in [b, z), where SMAP was looked for with the answer f
  abbrev SmapWrong : (b z n : ℕ) → Option (ℕ × ℕ) → Type 0
  SmapWrong b z n (Some (smap, last)) = picture.Wrong s (image_of s r o b z smap last) n
  SmapWrong b z n None = n ≡ 2

  smap_wrong : (b z n : ℕ) → 1 ≤ n → (f : Option (ℕ × ℕ))
      → (number (smap_test r.planes (image_width s o / 8) (image_height s o) s (b + 8) z f) ≡ n) ↔ SmapWrong b z n f
  smap_wrong b z n some (Some (smap, last)) = (
    λ e. picture.refused_wrong s (image_of s r o b z smap last) n (go (picture.test s (image_of s r o b z smap last)) e),
    λ w. ap number (picture.wrong_refused s (image_of s r o b z smap last) n w),
  )
    where
      go : (t : Result (Unit {0}) ℕ) → number t ≡ n → t ≡ Err n
      go (Ok tt) e = absurd (omega arith)
      go (Err m) e = ap Err e
  smap_wrong b z n some None = (λ e. sym e, λ e. sym e)

  image_wrong : (b z n : ℕ) → 1 ≤ n → state_block s o st ≡ Some (b, z) → (number fault ≡ n) ↔ SmapWrong b z n (find_tag tag-SMAP s (b + 8) z)
  unfolding image_fault image_test
  image_wrong b z n some at =
      renamed n (ap (λ (f : Option (ℕ × ℕ)). number (state_test r.planes (image_width s o / 8) (image_height s o) s f)) at)
      then smap_wrong b z n some (find_tag tag-SMAP s (b + 8) z)

  -- 2 for its SMAP, and 5 to 8
  pub image_two : drawable s o st ≡ true
      → (number fault ≡ 2) ↔ ((b : ℕ) × (z : ℕ) × (state_block s o st ≡ Some (b, z)) × (find_tag tag-SMAP s (b + 8) z ≡ None))
  image_two shows = (there, λ (b, z, at, none). (image_wrong b z 2 (omega arith) at).1 (subst (SmapWrong b z 2) (sym none) refl))
    where
      missing : (b z : ℕ) (f : Option (ℕ × ℕ)) → SmapWrong b z 2 f → f ≡ None
      missing b z (Some (smap, last)) w = absurd (omega (arith, (picture.wrong_number s (image_of s r o b z smap last) 2 w).0))
      missing b z None w = refl

      there : number fault ≡ 2 → (b : ℕ) × (z : ℕ) × (state_block s o st ≡ Some (b, z)) × (find_tag tag-SMAP s (b + 8) z ≡ None)
      there e =
          let (b, z, at) = state_found s o st shows in
          (b, z, at, missing b z (find_tag tag-SMAP s (b + 8) z) ((image_wrong b z 2 (omega arith) at).0 e))

  abbrev pub ImageWrong : ℕ → Type 0
  ImageWrong n =
      (b : ℕ) × (z : ℕ) × (state_block s o st ≡ Some (b, z))
      × ((smap : ℕ) × (last : ℕ) × (find_tag tag-SMAP s (b + 8) z ≡ Some (smap, last)) × picture.Wrong s (image_of s r o b z smap last) n)

  pub image_more : (n : ℕ) → 5 ≤ n → drawable s o st ≡ true → (number fault ≡ n) ↔ ImageWrong n
  image_more n big shows =
      (there, λ (b, z, at, (smap, last, found, w)). (image_wrong b z n (omega arith) at).1 (subst (SmapWrong b z n) (sym found) w))
    where
      placed : (b z : ℕ) → state_block s o st ≡ Some (b, z) → (f : Option (ℕ × ℕ)) → find_tag tag-SMAP s (b + 8) z ≡ f → SmapWrong b z n f → ImageWrong n
      placed b z at (Some (smap, last)) found w = (b, z, at, (smap, last, found, w))
      placed b z at None found w = absurd (omega arith)

      there : number fault ≡ n → ImageWrong n
      there e =
          let (b, z, at) = state_found s o st shows in
          placed b z at (find_tag tag-SMAP s (b + 8) z) refl ((image_wrong b z n (omega arith) at).0 e)

  -- none, where its blocks pass
  abbrev pub Passes : Type 0
  Passes =
      (b : ℕ) × (z : ℕ) × (state_block s o st ≡ Some (b, z))
      × ((smap : ℕ) × (last : ℕ) × (find_tag tag-SMAP s (b + 8) z ≡ Some (smap, last)) × AllPass s (image_of s r o b z smap last))

  abbrev here : (b z : ℕ) → Option (ℕ × ℕ) → Result (Unit {0}) ℕ
  here b z f = smap_test r.planes (image_width s o / 8) (image_height s o) s (b + 8) z f

  fault_here : (b z : ℕ) → state_block s o st ≡ Some (b, z) → (f : Option (ℕ × ℕ)) → find_tag tag-SMAP s (b + 8) z ≡ f → number fault ≡ number (here b z f)
  unfolding image_fault image_test
  fault_here b z at f found =
      ap (λ (g : Option (ℕ × ℕ)). number (state_test r.planes (image_width s o / 8) (image_height s o) s g)) at
      ∙ ap (λ (g : Option (ℕ × ℕ)). number (here b z g)) found

  pub image_zero : drawable s o st ≡ true → (number fault ≡ 0) ↔ Passes
  image_zero shows = (there, λ (b, z, at, (smap, last, found, pass)). fault_here b z at (Some (smap, last)) found ∙ ap number (picture.all-passed s _ pass))
    where
      placed : (b z : ℕ) → state_block s o st ≡ Some (b, z) → (f : Option (ℕ × ℕ)) → find_tag tag-SMAP s (b + 8) z ≡ f → number (here b z f) ≡ 0 → Passes
      placed b z at (Some (smap, last)) found e = (b, z, at, (smap, last, found, picture.number-zero s (image_of s r o b z smap last) e))
      placed b z at None found e = absurd (omega arith)

      there : number fault ≡ 0 → Passes
      there e =
          let (b, z, at) = state_found s o st shows in
          let f = find_tag tag-SMAP s (b + 8) z in
          placed b z at f refl (sym (fault_here b z at f refl) ∙ e)

  -- and no other
  pub fault_numbers : (n : ℕ) → 1 ≤ n → number fault ≡ n → (n ≡ 2) ⊎ ((5 ≤ n) × (n ≤ 8))
  unfolding image_fault
  fault_numbers n some e = go (state_block s o st) refl
    where
      by_smap : (b z : ℕ) (f : Option (ℕ × ℕ)) → SmapWrong b z n f → (n ≡ 2) ⊎ ((5 ≤ n) × (n ≤ 8))
      by_smap b z (Some (smap, last)) w = inr (picture.wrong_number s (image_of s r o b z smap last) n w)
      by_smap b z None w = inl w

      go : (f : Option (ℕ × ℕ)) → state_block s o st ≡ f → (n ≡ 2) ⊎ ((5 ≤ n) × (n ≤ 8))
      go (Some (b, z)) at = by_smap b z (find_tag tag-SMAP s (b + 8) z) ((image_wrong b z n some at).0 e)
      go None at = inl (sym (sym (ap (λ (f : Option (ℕ × ℕ)). number (state_test r.planes (image_width s o / 8) (image_height s o) s f)) at) ∙ e))

  pub fault-few : number fault ≤ 8
  fault-few = go (number fault) refl
    where
      small : (n : ℕ) → (n ≡ 2) ⊎ ((5 ≤ n) × (n ≤ 8)) → n ≤ 8
      small n (inl e) = omega arith
      small n (inr w) = w.1

      go : (n : ℕ) → number fault ≡ n → n ≤ 8
      go zero e = omega arith
      go (suc n) e = small (suc n) (fault_numbers (suc n) (omega arith) e)
