-- `words::put_bill` meets its contract: the three parts stand one after the other, each come back from its loan as what was copied.
use Rattle.std.proofs.Common.{rules}
use native.Mathlib.Omega.{arith}
use Prim.Native.Nat.{ℕ}
use mathlib.Core.Path.{◌≡◌, ap, ◌∙◌}
use mathlib.Core.List.{[], ◌∷◌, ◌++◌}
use Rattle.fields.specs.Put.{put}
use Rattle.fields.proofs.PutLaws.{put-mid}
use Rattle.words.specs.Layout.{posted_words, removal_word}
use Rattle.words.proofs.WordPlaceLaws.{put-parts}
use Rattle.words.proofs.put_bill.Goals as goal

pub returns : goal.returns
returns c =
    let b = c.args.b in
    let removal : c.map_or-removal.result ≡ removal_word b.terms.removal = search rules in
    put-parts b c.args.at c.args.words.now _ _ _ (omega arith)
    (put-mid _ _ _ _ (omega (arith, c.copy_from_slice.ensures.len)) ∙ ap (put _ _) (c.copy_from_slice.ensures.after ∙ c.terms_words.ensures))
    (put-mid _ _ _ _ (omega (arith, c.copy_from_slice-2.ensures.len)) ∙ ap (put _ _) (c.copy_from_slice-2.ensures.after ∙ c.latest_words.ensures))
    (put-mid _ _ _ _ (omega (arith, c.copy_from_slice-3.ensures.len)) ∙ ap (put _ _) (c.copy_from_slice-3.ensures.after ∙ c.last_words.ensures ∙ ap (λ (w : ℕ). posted_words b.posted ++ (w ∷ [])) removal))
