use Rattle.std.proofs.Common.{ap, sym, ◌∙◌, List, [], ◌∷◌, add-zero, ℕ, ◌+◌, get_or}
use lib.Seq.{sets}
use Rattle.number.proofs.StoreLaws.{sets-append}
use Rattle.block_writer.proofs.copy_eight.Goals as goal

pub returns : goal.returns
returns c =
    let put-four2 = c.put_four-2 in let put_four = c.put_four in
    let a = c.args in
    let s = a.src.now in
    let i = a.from in
    let two = get_or s (i + 4) 0 ∷ get_or s (i + 5) 0 ∷ get_or s (i + 6) 0 ∷ get_or s (i + 7) 0 ∷ [] in
    put-four2.ensures
    ∙ ap (λ (l : List ℕ). sets l (a.to + 4) two) put_four.ensures
    ∙ sets-append (get_or s i 0 ∷ get_or s (i + 1) 0 ∷ get_or s (i + 2) 0 ∷ get_or s (i + 3) 0 ∷ []) two a.out.now a.to
    ∙ ap (λ (k : ℕ). sets a.out.now a.to (get_or s k 0 ∷ get_or s (i + 1) 0 ∷ get_or s (i + 2) 0 ∷ get_or s (i + 3) 0 ∷ two)) (sym (add-zero i))
