-- The keys that rows are under.
use Rattle.std.specs.Prelude.{◌≡◌}
use Rattle.std.proofs.Common.{rules}
use Rattle.book.specs.FiledRows.{filed_key, filed_under}
use Rattle.book.specs.ReadingRows.{reading_key, reading_under}
use Rattle.book.specs.contracts.filed_row.FiledKeyPartialEq.TheImpl as filed
use Rattle.book.specs.contracts.reading_row.ReadingKeyPartialEq.TheImpl as reading
use Rattle.book.specs.declared.filed_row.FiledKey.{FiledKey}
use Rattle.book.specs.declared.filed_row.FiledRow.{FiledRow}
use Rattle.book.specs.declared.reading_row.ReadingKey.{ReadingKey}
use Rattle.book.specs.declared.reading_row.ReadingRow.{ReadingRow}

-- A filed entry's row is under the keys that equal its own.
pub filed_keyed : (x : FiledRow) (k : FiledKey) → filed.ghosts.eq (filed_key x) k ≡ filed_under x k
filed_keyed x k = search rules

-- A reading's row is under the keys that equal its own.
pub reading_keyed : (x : ReadingRow) (k : ReadingKey) → reading.ghosts.eq (reading_key x) k ≡ reading_under x k
reading_keyed x k = search rules
