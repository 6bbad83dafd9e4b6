use Rattle.std.proofs.Common.{◌≡◌, ℕ, ◌^◌, ◌<◌, true, List, length, Ok, Err, Result, MatchResult, ap, arith, rules}
use Rattle.std.proofs.lemmas.Str.Parse.{IsNumeralModel, numerals_by_fold, parse_digits}
use Rattle.std.proofs.lemmas.Result.{MatchResult-weaker}
use Rattle.std.proofs.lemmas.Bool.Decides.{nat_tests}
use Rattle.std.specs.Result.{OkIff}
use Rattle.std.specs.Str.{all_ascii_digits}
use Rattle.tizgrel.specs.declared.number.NumberFault.{NumberFault}
use Rattle.tizgrel.specs.declared.number.NumberFault.TheVariants.{TooLarge}
use Rattle.tizgrel.specs.Numbers.{read_on, whole_number}
use Rattle.tizgrel.proofs.number.whole_number.Goals as goal

-- a word of digits writes what read_on reads
own : IsNumeralModel (λ ds. all_ascii_digits ds ≡ true) (read_on 0)
own = numerals_by_fold _ (search rules) read_on (search rules)

-- what a parse of digits gives, with TooLarge for its error
parsed : {E : Type 0} (word : List ℕ) (r : Result ℕ E) (m : Result ℕ NumberFault) → 0 < length word → all_ascii_digits word ≡ true → OkIff r ((0 < length word) × (read_on 0 word < 2 ^ 64)) (read_on 0 word) → MatchResult r (λ n. m ≡ Ok n) (λ _. m ≡ Err TooLarge) → m ≡ whole_number word
parsed word (Ok n) m some digits read mapped = grind (arith, nat_tests)
parsed word (Err e) m some digits read mapped = grind (arith, nat_tests)

pub returns : goal.returns
returns c =
    let word = c.args.word.now in
    let same = ap all_ascii_digits c.as_bytes.ensures.value in
    let digits : all_ascii_digits word ≡ true = cc in
    let some : 0 < length word = grind (arith, nat_tests) in
    let read = parse_digits own 64 word c.parse.result c.parse.ensures.value.0 digits in
    parsed word c.parse.result c.map_err.result some digits read
    (MatchResult-weaker c.parse.result c.map_err.ensures.cases (λ n e. e) (λ _ e. search rules))
