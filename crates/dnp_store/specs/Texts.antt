-- Definition: the statements of a store: those that make its tables, and those by which its calls read and change them.
use Rattle.std.specs.Prelude.{◌≡◌, ℕ, List, [], ◌∷◌, ◌++◌, codes, slice_get, Some}
use Rattle.dnp_store.specs.declared.queue_side.QueueSide.{QueueSide}
use Rattle.dnp_store.specs.declared.queue_side.QueueSide.TheVariants.{First, Second}
use Rattle.dnp_store.specs.declared.store_kind.StoreKind.{StoreKind}
use Rattle.dnp_store.specs.declared.store_kind.StoreKind.TheVariants.{Queue, Journal, Book}

-- ---- those by which each store looks at its tables

abbrev pub form_select : List ℕ
form_select = codes "SELECT rowid, number FROM form ORDER BY rowid"

abbrev pub sequence_select : List ℕ
sequence_select = codes "SELECT rowid, name, seq FROM sqlite_sequence ORDER BY rowid"

-- ---- those of a queue

-- five parameters for each of sixteen rows
abbrev pub sixteen_rows : List ℕ
sixteen_rows =
    codes "(?1, ?2, ?3, ?4, ?5), (?6, ?7, ?8, ?9, ?10), (?11, ?12, ?13, ?14, ?15), (?16, ?17, ?18, ?19, ?20), " ++
    codes "(?21, ?22, ?23, ?24, ?25), (?26, ?27, ?28, ?29, ?30), (?31, ?32, ?33, ?34, ?35), (?36, ?37, ?38, ?39, ?40), " ++
    codes "(?41, ?42, ?43, ?44, ?45), (?46, ?47, ?48, ?49, ?50), (?51, ?52, ?53, ?54, ?55), (?56, ?57, ?58, ?59, ?60), " ++
    codes "(?61, ?62, ?63, ?64, ?65), (?66, ?67, ?68, ?69, ?70), (?71, ?72, ?73, ?74, ?75), (?76, ?77, ?78, ?79, ?80)"

abbrev pub rows_insert : QueueSide → List ℕ
rows_insert First = codes "INSERT INTO queue (lane, point, flags, value, time) VALUES (?1, ?2, ?3, ?4, ?5)"
rows_insert Second = codes "INSERT INTO queue_b (lane, point, flags, value, time) VALUES (?1, ?2, ?3, ?4, ?5)"

abbrev pub rows_insert_16 : QueueSide → List ℕ
rows_insert_16 First = codes "INSERT INTO queue (lane, point, flags, value, time) VALUES " ++ sixteen_rows
rows_insert_16 Second = codes "INSERT INTO queue_b (lane, point, flags, value, time) VALUES " ++ sixteen_rows

abbrev pub rows_delete : QueueSide → List ℕ
rows_delete First = codes "DELETE FROM queue WHERE lane = ?1 AND id <= ?2"
rows_delete Second = codes "DELETE FROM queue_b WHERE lane = ?1 AND id <= ?2"

abbrev pub lanes_update : QueueSide → List ℕ
lanes_update First = codes "UPDATE lanes SET lost = ?2, raised = ?3 WHERE lane = ?1"
lanes_update Second = codes "UPDATE lanes_b SET lost = ?2, raised = ?3 WHERE lane = ?1"

-- what stands in the two tables of a side
abbrev pub lanes_select : QueueSide → List ℕ
lanes_select First = codes "SELECT lane, cap, lost, raised FROM lanes ORDER BY lane"
lanes_select Second = codes "SELECT lane, cap, lost, raised FROM lanes_b ORDER BY lane"

abbrev pub rows_select : QueueSide → List ℕ
rows_select First = codes "SELECT id, lane, point, flags, value, time FROM queue ORDER BY id"
rows_select Second = codes "SELECT id, lane, point, flags, value, time FROM queue_b ORDER BY id"

-- ---- those of a journal

abbrev pub journal_insert : List ℕ
journal_insert = codes "INSERT INTO journal (kind, point, flags, value, time) VALUES (?1, ?2, ?3, ?4, ?5)"

abbrev pub journal_insert_16 : List ℕ
journal_insert_16 = codes "INSERT INTO journal (kind, point, flags, value, time) VALUES " ++ sixteen_rows

abbrev pub journal_select : List ℕ
journal_select = codes "SELECT id, kind, point, flags, value, time FROM journal WHERE id > ?1 ORDER BY id LIMIT ?2"

abbrev pub journal_count : List ℕ
journal_count = codes "SELECT count(*) FROM journal"

-- ---- those of a book

abbrev pub book_insert : List ℕ
book_insert =
    codes "INSERT INTO control (target, kind, point, code, count, on_ms, off_ms, value, state, status) VALUES (?1, ?2, ?3, ?4, ?5, ?6, ?7, ?8, 0, 0)"

abbrev pub book_update : List ℕ
book_update = codes "UPDATE control SET state = ?2, status = ?3 WHERE id = ?1"

abbrev pub book_select : List ℕ
book_select = codes "SELECT id, target, kind, point, code, count, on_ms, off_ms, value, state, status FROM control ORDER BY id"

-- ---- those that fill new tables

abbrev pub form_insert : List ℕ
form_insert = codes "INSERT INTO form VALUES (1)"

abbrev pub lanes_insert : List ℕ
lanes_insert = codes "INSERT INTO lanes VALUES (?1, ?2, 0, 0)"

-- ---- those that make the second centre's side of a queue, beside its two tables

abbrev pub lanes_b_insert : List ℕ
lanes_b_insert = codes "INSERT INTO lanes_b VALUES (?1, ?2, 0, 0)"

abbrev pub form_update : List ℕ
form_update = codes "UPDATE form SET number = 2"

-- ---- all of them

abbrev pub texts_of : StoreKind → List (List ℕ)
texts_of Queue =
    rows_insert First ∷ rows_insert_16 First ∷ rows_delete First ∷ lanes_update First ∷ rows_insert Second ∷ rows_insert_16 Second ∷ rows_delete Second
    ∷ lanes_update Second ∷ []
texts_of Journal = journal_insert ∷ journal_insert_16 ∷ journal_select ∷ []
texts_of Book = book_insert ∷ book_update ∷ []

-- the text is one of them
abbrev pub IsOwn : StoreKind → List ℕ → Type 0
IsOwn kind sql = (k : ℕ) × (slice_get (texts_of kind) k ≡ Some sql)
