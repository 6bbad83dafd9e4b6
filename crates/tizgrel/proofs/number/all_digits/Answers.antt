use Rattle.std.proofs.Common.{◌≡◌, ℕ, Bool, ◌&&◌, List, [], ◌∷◌, refl, ap, ◌∙◌, rules, tests}
use Rattle.std.proofs.lemmas.Iterator.{YieldsList-from_slice}
use Rattle.std.proofs.lemmas.Iterator.Search.{all_from_yields_List}
use Rattle.std.specs.Char.{is_ascii_digit}
use Rattle.std.specs.List.{list_all}
use Rattle.std.specs.Str.{all_ascii_digits}
use Rattle.tizgrel.proofs.number.all_digits.Goals as goal

-- the test of each byte is the test of all
same_test : (bytes : List ℕ) → list_all is_ascii_digit bytes ≡ all_ascii_digits bytes
same_test [] = refl
same_test (b ∷ bs) = ap (λ (t : Bool). is_ascii_digit b && t) (same_test bs)

pub returns : goal.returns
returns c =
    all_from_yields_List is_ascii_digit _ _ _ c.all.ensures.ran (YieldsList-from_slice c.args.bytes.now cc) (λ x b q k. search (rules, tests))
    ∙ same_test c.args.bytes.now
