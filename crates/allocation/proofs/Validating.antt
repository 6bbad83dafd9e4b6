-- Validated trades and agreed matches, as cells tell them: within limits, and nil outside the square.
use Rattle.std.proofs.Common.{◌≡◌, ℕ, ◌<◌, ◌≤◌, Bool, true, false, cond, ◌&&◌, eqb, ◌⊎◌, List, [], ◌∷◌, get_or, IfSome, Some, None, Option, sym, refl, ap, ◌∙◌, arith}
use Rattle.std.proofs.lemmas.Bool.Decides.{nat_tests}
use Rattle.std.specs.Option.{option_map}
use Rattle.energy.specs.declared.side.Side.TheVariants.{Northern, Southern}
use Rattle.book.specs.FiledRows.{filed_fit}
use Rattle.book.specs.declared.filed_row.FiledKey.{FiledKey}
use Rattle.book.specs.declared.filed_row.FiledKind.TheVariants.{Trade, Match}
use Rattle.book.specs.declared.filed_row.FiledRow.{FiledRow}
use Rattle.allocation.specs.Cells.{filed, key_of, amounts, cell_of}
use Rattle.allocation.specs.Grids.{cell_in}
use Rattle.allocation.specs.Told.{told_ns, told_sn, told_four, told_match}
use Rattle.allocation.specs.Trades.{alike, validated, valid_ns, valid_sn, same_four, agreed, north_fits, south_fits, valid_match}
use Rattle.allocation.specs.declared.cell.Amounts.{Amounts}
use Rattle.allocation.specs.declared.cell.Cell.{Cell}
use Rattle.allocation.proofs.Filling.{square_is}
use Rattle.allocation.proofs.Gathering.{filed_outside}

-- what is told of two rows' amounts is what the rows tell
pub alike_told : (amount : Amounts → ℕ) (a b : Option FiledRow) → alike (option_map amount (option_map amounts a)) (option_map amount (option_map amounts b)) ≡ alike (option_map (λ x. amount (amounts x)) a) (option_map (λ x. amount (amounts x)) b)
alike_told amount None b = refl
alike_told amount (Some x) None = refl
alike_told amount (Some x) (Some y) = refl

pub four_told : (a b : Option FiledRow) → told_four (option_map amounts a) (option_map amounts b) ≡ same_four a b
four_told None b = refl
four_told (Some x) None = refl
four_told (Some x) (Some y) = refl

module _ (xs : List FiledRow) (p : ℕ) where
  -- no pair outside the square has a trade or a match
  pub trade_outside : (amount : FiledRow → ℕ) (n s : ℕ) → (16 ≤ n) ⊎ (16 ≤ s) → validated amount xs p n s ≡ 0
  trade_outside amount n s h = let none = filed_outside xs (key_of p Trade Northern n s) h in rw none refl

  pub agreed_outside : (n s : ℕ) → (16 ≤ n) ⊎ (16 ≤ s) → agreed xs p n s ≡ 0
  agreed_outside n s h = let none = filed_outside xs (key_of p Match Northern n s) h in rw none refl

  -- a square read off the cells of the period's filings
  pub read_off : (told : Cell → ℕ) (f : ℕ → ℕ → ℕ) → ((n s : ℕ) → told (cell_of xs p n s) ≡ f n s) → ((n s : ℕ) → (16 ≤ n) ⊎ (16 ≤ s) → f n s ≡ 0) → (cells : List (List Cell)) → cell_in cells ≡ cell_of xs p → (g : ℕ → ℕ → ℕ) → ((n s : ℕ) → n < 16 → s < 16 → g n s ≡ told (cell_in cells n s)) → ((n s : ℕ) → (16 ≤ n) ⊎ (16 ≤ s) → g n s ≡ 0) → g ≡ f
  read_off told f tells none cells same g inside nil =
      square_is f g
      (λ n s hn hs. inside n s hn hs ∙ ap (λ (h : ℕ → ℕ → Cell). told (h n s)) same ∙ tells n s)
      (λ n s h. nil n s h ∙ sym (none n s h))

  module _ (cells : List (List Cell)) (same : cell_in cells ≡ cell_of xs p) (g : ℕ → ℕ → ℕ) where
    pub ns_read : ((n s : ℕ) → n < 16 → s < 16 → g n s ≡ told_ns (cell_in cells n s)) → ((n s : ℕ) → (16 ≤ n) ⊎ (16 ≤ s) → g n s ≡ 0) → g ≡ valid_ns xs p
    ns_read =
        read_off told_ns (valid_ns xs p)
        (λ n s. alike_told (λ x. x.ns.0) (filed xs (key_of p Trade Northern n s)) (filed xs (key_of p Trade Southern n s)))
        (trade_outside (λ x. x.ns.0)) cells same g

    pub sn_read : ((n s : ℕ) → n < 16 → s < 16 → g n s ≡ told_sn (cell_in cells n s)) → ((n s : ℕ) → (16 ≤ n) ⊎ (16 ≤ s) → g n s ≡ 0) → g ≡ valid_sn xs p
    sn_read =
        read_off told_sn (valid_sn xs p)
        (λ n s. alike_told (λ x. x.sn.0) (filed xs (key_of p Trade Northern n s)) (filed xs (key_of p Trade Southern n s)))
        (trade_outside (λ x. x.sn.0)) cells same g

    pub match_read : ((n s : ℕ) → n < 16 → s < 16 → g n s ≡ told_match (cell_in cells n s)) → ((n s : ℕ) → (16 ≤ n) ⊎ (16 ≤ s) → g n s ≡ 0) → g ≡ agreed xs p
    match_read =
        read_off told_match (agreed xs p)
        (λ n s. four_told (filed xs (key_of p Match Northern n s)) (filed xs (key_of p Match Southern n s)))
        agreed_outside cells same g

-- an entry's amounts are within the limit
small_row : (x : FiledRow) → filed_fit x ≡ true → (x.ns.0 ≤ 9999999) × (x.sn.0 ≤ 9999999)
small_row x e = grind (arith, nat_tests)

abbrev Small : Option FiledRow → Type 0
Small o = IfSome o (λ x. (x.ns.0 ≤ 9999999) × (x.sn.0 ≤ 9999999))

filed_small : (xs : List FiledRow) (k : FiledKey) → Small (filed xs k)
filed_small [] k = tt
filed_small (x ∷ xs) k =
    let rest = filed_small xs k in
    let one = small_row x in
    grind (arith, nat_tests)

pub cond_small : (t : Bool) (a : ℕ) → a ≤ 9999999 → cond t a 0 ≤ 9999999
cond_small t a h = grind (arith, nat_tests)

alike_small : (amount : FiledRow → ℕ) → ((x : FiledRow) → (x.ns.0 ≤ 9999999) × (x.sn.0 ≤ 9999999) → amount x ≤ 9999999) → (a b : Option FiledRow) → Small a → alike (option_map amount a) (option_map amount b) ≤ 9999999
alike_small amount within None b h = omega arith
alike_small amount within (Some x) None h = omega arith
alike_small amount within (Some x) (Some y) h = cond_small (eqb (amount x) (amount y)) (amount x) (within x h)

four_small : (a b : Option FiledRow) → Small a → same_four a b ≤ 9999999
four_small None b h = omega arith
four_small (Some x) None h = omega arith
four_small (Some x) (Some y) h = cond_small (eqb x.ns.0 x.sn.0 && (eqb x.ns.0 y.ns.0 && eqb x.ns.0 y.sn.0)) x.ns.0 h.0

module _ (xs : List FiledRow) (p n s : ℕ) where
  trade_small : (amount : FiledRow → ℕ) → ((x : FiledRow) → (x.ns.0 ≤ 9999999) × (x.sn.0 ≤ 9999999) → amount x ≤ 9999999) → validated amount xs p n s ≤ 9999999
  trade_small amount within =
      alike_small amount within (filed xs (key_of p Trade Northern n s)) (filed xs (key_of p Trade Southern n s)) (filed_small xs (key_of p Trade Northern n s))

  pub ns_small : valid_ns xs p n s ≤ 9999999
  ns_small = trade_small (λ x. x.ns.0) (λ x h. h.0)

  pub sn_small : valid_sn xs p n s ≤ 9999999
  sn_small = trade_small (λ x. x.sn.0) (λ x h. h.1)

  pub agreed_small : agreed xs p n s ≤ 9999999
  agreed_small = four_small (filed xs (key_of p Match Northern n s)) (filed xs (key_of p Match Southern n s)) (filed_small xs (key_of p Match Northern n s))

pub match_outside : (xs : List FiledRow) (p north south n s : ℕ) → (16 ≤ n) ⊎ (16 ≤ s) → valid_match north south xs p n s ≡ 0
match_outside xs p north south n s h = let none = agreed_outside xs p n s h in grind (arith, nat_tests)

-- the matches that fit on both sides are the validated ones
module _ (xs : List FiledRow) (p north south : ℕ) (own facing : List Bool) (g : ℕ → ℕ → ℕ) where
  pub match_is : ((k : ℕ) → k < 16 → get_or own k false ≡ north_fits south xs p k) → ((k : ℕ) → k < 16 → get_or facing k false ≡ south_fits north xs p k) → ((i j : ℕ) → i < 16 → j < 16 → g i j ≡ cond (get_or own i false && get_or facing j false) (agreed xs p i j) 0) → ((i j : ℕ) → (16 ≤ i) ⊎ (16 ≤ j) → g i j ≡ 0) → g ≡ valid_match north south xs p
  match_is own_fits facing_fits inside nil =
      square_is (valid_match north south xs p) g
      (λ i j hi hj. inside i j hi hj
      ∙ ap (λ (t : Bool). cond (t && get_or facing j false) (agreed xs p i j) 0) (own_fits i hi)
      ∙ ap (λ (t : Bool). cond (north_fits south xs p i && t) (agreed xs p i j) 0) (facing_fits j hj))
      (λ i j h. nil i j h ∙ sym (match_outside xs p north south i j h))
