-- What holds of items that are made and laid. The contracts of the calls cite the law of the case at hand (Appended, Opened,
-- EntryTrip, ContentTrip, Filled); the laws of all cases are proved beside it, for those who reason about rows of cells and
-- records. Assumes nothing.
--
-- Appended                     ys is xs with bytes laid over it at e: where these are a run of items, and the walk of xs ends at e,
--                              the walk of ys is that of xs and then just these items, and it ends behind them
-- Opened                       the same of a blank block, where the run begins with the marker
-- Appends, Opens               so it is with every run that fits
-- EntryTrip                    an entry made from its fields passes, and is read as these fields
-- ContentTrip                  a content does
-- EntryTrips, ContentTrips     so it is with all fields that fit their places
-- Filled                       what fills n bytes passes, and takes up n bytes
-- Fills                        so it is with every number of whole words that a header can say
-- Fillers                      zero words and padding pass, and take up what they should
use Rattle.std.specs.Prelude.{◌≡◌, ℕ, ◌+◌, ◌%◌, ◌^◌, ◌<◌, ◌≤◌, List, ◌∷◌, ◌++◌, length}
use Rattle.flash.specs.Cells.{Cell, cells, blank, over}
use Rattle.nodes.specs.Fields.{padded}
use Rattle.nodes.specs.Items.{Item, size}
use Rattle.nodes.specs.Walk.{walk, marker}
use Rattle.nodes.specs.Records.{Entry, Content, read_entry, read_content}
use Rattle.encode.specs.Encode.{Bytes, EntryFits, entry_item, ContentFits, content_item, zero_word, padding, filling}
use Rattle.encode.specs.Laid.{WellFormed, AllWellFormed, run, placed, Ends}

abbrev pub Appended : List Cell → ℕ → List ℕ → List Cell → Type 0
Appended xs e bs ys =
    (its : List Item) → AllWellFormed its → bs ≡ run its → 12 ≤ e → Ends xs e → (walk ys ≡ walk xs ++ placed e its) × Ends ys (e + length bs)

abbrev pub Opened : List Cell → List ℕ → List Cell → Type 0
Opened xs bs ys =
    (its : List Item) → AllWellFormed its → bs ≡ run (marker ∷ its) → xs ≡ blank (length xs)
    → (walk ys ≡ placed 0 (marker ∷ its)) × Ends ys (length bs)

abbrev pub Appends : Type 0
Appends = (xs : List Cell) (e : ℕ) (bs : List ℕ) → e + length bs ≤ length xs → Appended xs e bs (over xs e (cells bs))

abbrev pub Opens : Type 0
Opens = (xs : List Cell) (bs : List ℕ) → length bs ≤ length xs → Opened xs bs (over xs 0 (cells bs))

abbrev pub EntryTrip : Entry → Type 0
EntryTrip x = WellFormed (entry_item x) × (read_entry (entry_item x) ≡ x)

abbrev pub EntryTrips : Type 0
EntryTrips = (x : Entry) → EntryFits x → Bytes x.name → EntryTrip x

abbrev pub ContentTrip : Content → Type 0
ContentTrip x = WellFormed (content_item x) × (read_content (content_item x) ≡ x)

abbrev pub ContentTrips : Type 0
ContentTrips = (x : Content) → ContentFits x → Bytes x.payload → ContentTrip x

abbrev pub Fillers : Type 0
Fillers = WellFormed zero_word × (size zero_word ≡ 4) × ((n : ℕ) → 12 ≤ n → n < 2 ^ 32 → WellFormed (padding n) × (size (padding n) ≡ padded n))

abbrev pub Filled : ℕ → Type 0
Filled n = AllWellFormed (filling n) × (length (run (filling n)) ≡ n)

abbrev pub Fills : Type 0
Fills = (n : ℕ) → n % 4 ≡ 0 → n < 2 ^ 32 → Filled n
