-- Entries made from their fields pass, and are read as these fields.
use Rattle.std.proofs.Common.{◌≡◌, ℕ, ◌+◌, ◌^◌, ◌<◌, ◌≤◌, true, List, [], ◌∷◌, ◌++◌, length, take, refl, ap, arith}
use Rattle.std.proofs.lemmas.List.{take_all}
use Rattle.std.proofs.lemmas.Bool.Decides.{nat_tests}
use Rattle.crc32.specs.Sum.{sum}
use Rattle.nodes.specs.Fields.{le32, bytes32, padded, all}
use Rattle.nodes.specs.Items.{size, totlen, entry, nsize, name}
use Rattle.nodes.specs.Records.{Entry, read_entry}
use Rattle.encode.specs.Encode.{spread, head, head8, EntryFits, entry32, entry_item}
use Rattle.encode.specs.Laid.{WellFormed}
use Rattle.encode.specs.Node.{node_item, entry_words, entry_sums}
use Rattle.encode.specs.Laws.{EntryTrip, EntryTrips}
use Rattle.encode.proofs.Sums.{sum_fits, digits, low_bytes}
use Rattle.encode.proofs.Headers.{Headed, headed, front_sum, entry_passes, entry_reach}

module _ (x : Entry) where
  abbrev behind : List ℕ
  behind =
      (bytes32 x.pino ++ (bytes32 x.version ++ (bytes32 x.ino ++ (bytes32 0 ++ (length x.name ∷ x.dtype ∷ 0 ∷ 0 ∷ [])))))
      ++ (bytes32 (sum (entry32 x)) ++ (bytes32 (sum x.name) ++ x.name))

  entry_is : entry_item x ≡ head 0xE001 (40 + length x.name) ++ behind
  unfolding entry_item entry32 head head8
  entry_is = refl

  pub entry_length : length (entry_item x) ≡ 40 + length x.name
  unfolding entry_item entry32 head head8
  entry_length = omega arith

  entry_headed : length x.name ≤ 32 → Headed 0xE001 (40 + length x.name) (entry_item x)
  entry_headed h = headed 0xE001 (40 + length x.name) (entry_item x) behind entry_is (omega arith) (omega arith)

  pub entry_size : length x.name ≤ 32 → size (entry_item x) ≡ padded (40 + length x.name)
  entry_size h = (entry_headed h).sized

  entry_name : name (entry_item x) ≡ x.name
  unfolding entry_item entry32 head head8
  entry_name = take_all (length x.name) x.name (omega arith)

  entry_nsize : nsize (entry_item x) ≡ length x.name
  unfolding entry_item entry32 head head8
  entry_nsize = refl

-- the fixed part and the item, as a node has them
module _ (x : Entry) (f : EntryFits x) where
  entry_fixed : entry32 x ≡ head 0xE001 (40 + length x.name) ++ spread (entry_words x (length x.name))
  unfolding entry32 spread
  entry_fixed = let h = f.short in cc (low_bytes (length x.name) x.dtype (omega arith) f.dtype)

  pub entry_made : entry_item x ≡ node_item 0xE001 (40 + length x.name) (entry_words x (length x.name)) entry_sums x.name
  unfolding entry_item spread
  entry_made = cc entry_fixed

module _ (x : Entry) (f : EntryFits x) (summed : sum x.name < 2 ^ 32) where
  entry_sum : le32 (entry_item x) 32 ≡ sum (take 32 (entry_item x))
  unfolding entry_item entry32 head head8 le32
  entry_sum = digits (sum (entry32 x)) (rw (entry_fixed x f) (front_sum 0xE001 (40 + length x.name) (entry_words x (length x.name))))

  name_sum : le32 (entry_item x) 36 ≡ sum x.name
  unfolding entry_item entry32 head head8 le32
  name_sum = digits (sum x.name) summed

  entry_tests : totlen (entry_item x) ≡ 40 + length x.name → all (entry (entry_item x)) ≡ true
  entry_tests t = grind (arith, nat_tests, entry_nsize x, entry_sum, name_sum, ap sum (entry_name x))

  entry_well : WellFormed (entry_item x)
  entry_well =
      let it = entry_item x in
      let h = entry_headed x f.short in
      let l = entry_length x in
      let r = entry_reach it h.word h.kind_is in
      let t = h.total in
      (omega arith, entry_passes (size it) it h.word (h.good (omega arith)) h.kind_is (entry_tests t))

  entry_read : read_entry (entry_item x) ≡ x
  unfolding read_entry entry_item entry32 head head8 le32
  entry_read =
      λ i. record {
        pino = digits x.pino f.pino i;
        version = digits x.version f.version i;
        ino = digits x.ino f.ino i;
        dtype = x.dtype;
        name = entry_name x i;
      }

  pub entry_trip : EntryTrip x
  entry_trip = (entry_well, entry_read)

pub entry_trips : EntryTrips
entry_trips x f b = entry_trip x f (sum_fits x.name b)
