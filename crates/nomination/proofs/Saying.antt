-- What a record says does not depend on where its line starts, and is what its line says.
use Rattle.std.proofs.Common.{◌≡◌, ℕ, ◌+◌, Bool, true, false, cond, ◌&&◌, ltb, leb, List, length, Some, None, Ok, Err, Option, Result, sym, refl, ap, ◌∙◌, arith}
use Rattle.nomination.specs.Lines.{Line}
use Rattle.nomination.specs.Marks.{place_of}
use Rattle.nomination.specs.Reading.{line_at, record_of, stepped, next_of, line_values, answer_read, said_next}
use Rattle.nomination.specs.Records.{RecordText, record_in}
use Rattle.nomination.specs.Values.{RecordValues, onward, record_read}
use Rattle.nomination.specs.declared.fault.TextFault.{TextFault}
use Rattle.nomination.specs.declared.fault.TextFault.TheVariants.{TooLong}

base_free : (n base : ℕ) (l : Line) → onward (record_in n base l) (record_read n) ≡ line_values n l
base_free n base l = grind arith

-- an answer of the reader, with the record read
abbrev pub said_from : ℕ → Result (Option RecordText) TextFault × ℕ × ℕ → Result (Option RecordValues) TextFault × ℕ × ℕ
said_from n x = (answer_read n x.0, x.1, x.2)

abbrev at_end : {X : Type 0} → Result (Option X) TextFault → ℕ → ℕ → Result (Option X) TextFault × ℕ × ℕ
at_end r a m = (r, a, m)

read_said : (text : List ℕ) (at n : ℕ) (r : RecordText) (q : Result RecordValues TextFault) → q ≡ record_read n r
    → said_from n (stepped text at n (onward q (λ _. Ok r))) ≡ stepped text at n q
read_said text at n r (Err f) e = refl
read_said text at n r (Ok v) e =
    ap (λ (x : Result RecordValues TextFault). at_end (onward x (λ w. Ok (Some w))) (place_of 10 text at + 1) (n + 1)) (sym e)

line_said : (text : List ℕ) (at n : ℕ) (o : Result RecordText TextFault)
    → said_from n (stepped text at n (onward o (λ r. onward (record_read n r) (λ _. Ok r)))) ≡ stepped text at n (onward o (record_read n))
line_said text at n (Err f) = refl
line_said text at n (Ok r) = read_said text at n r (record_read n r) refl

end_said : (text : List ℕ) (at n : ℕ) (b : Bool)
    → said_from n (cond b (Ok None, at, n) (stepped text at n (record_of n at (line_at text at))))
    ≡ cond b (Ok None, at, n) (stepped text at n (line_values n (line_at text at)))
end_said text at n true = refl
end_said text at n false =
    line_said text at n (record_in n at (line_at text at)) ∙ ap (stepped text at n) (base_free n at (line_at text at))

long_said : (text : List ℕ) (at n : ℕ) (b : Bool)
    → said_from n (cond b (Err TooLong, at, n) (cond (leb (length text) at && ltb 1 n) (Ok None, at, n) (stepped text at n (record_of n at (line_at text at)))))
    ≡ cond b (Err TooLong, at, n) (cond (leb (length text) at && ltb 1 n) (Ok None, at, n) (stepped text at n (line_values n (line_at text at))))
long_said text at n true = refl
long_said text at n false = end_said text at n (leb (length text) at && ltb 1 n)

pub said_next_lem : (text : List ℕ) (at n : ℕ) → said_from n (next_of text at n) ≡ said_next text at n
said_next_lem text at n = long_said text at n (ltb 65536 (length text))
