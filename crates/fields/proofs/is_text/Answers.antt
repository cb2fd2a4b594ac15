use mathlib.Core.Path.{refl, ap, ◌∙◌}
use mathlib.Core.List.{List}
use Prim.Native.Nat.{ℕ}
use lib.ListN.{length}
use Rattle.fields.specs.Put.{part, same_list}
use Rattle.fields.proofs.PutLaws.{part-whole}
use Rattle.fields.proofs.HoldLaws.{holds-part}
use Rattle.fields.proofs.is_text.Goals as goal

pub returns : goal.returns
returns c =
    let a = c.args in
    c.same_part.ensures
    ∙ ap (λ (l : List ℕ). same_list (part a.s.now a.at (length a.text.now)) l) (part-whole a.text.now _ refl)
    ∙ holds-part a.s.now a.text.now a.at _ refl
