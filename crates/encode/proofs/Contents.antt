-- Contents made from their fields pass, and are read as these fields.
use Rattle.std.proofs.Common.{◌≡◌, ℕ, ◌+◌, ◌^◌, ◌<◌, ◌≤◌, true, List, [], ◌∷◌, ◌++◌, length, take, drop, refl, ap, ◌∙◌, arith}
use Rattle.std.proofs.lemmas.List.{take_all}
use Rattle.std.proofs.lemmas.Bool.Decides.{nat_tests}
use Rattle.crc32.specs.Sum.{sum}
use Rattle.nodes.specs.Fields.{le32, bytes32, padded, all}
use Rattle.nodes.specs.Items.{size, totlen, content, csize, payload}
use Rattle.nodes.specs.Records.{Content, read_content}
use Rattle.encode.specs.Encode.{spread, head, head8, ContentFits, content60, content_item}
use Rattle.encode.specs.Laid.{WellFormed}
use Rattle.encode.specs.Node.{node_item, content_words, content_sums}
use Rattle.encode.specs.Laws.{ContentTrip, ContentTrips}
use Rattle.encode.proofs.Sums.{sum_fits, digits, low_byte}
use Rattle.encode.proofs.Headers.{Headed, headed, front_sum, content_passes, content_reach}

module _ (x : Content) where
  abbrev behind : List ℕ
  behind =
      (bytes32 x.ino ++ (bytes32 x.version ++ (bytes32 x.mode ++ (bytes32 0 ++ (bytes32 x.isize
      ++ (bytes32 0 ++ (bytes32 0 ++ (bytes32 0 ++ (bytes32 x.offset ++ (bytes32 (length x.payload) ++ (bytes32 x.dsize ++ (x.compr ∷ 0 ∷ 0 ∷ 0 ∷ []))))))))))))
      ++ (bytes32 (sum x.payload) ++ (bytes32 (sum (content60 x)) ++ x.payload))

  content_is : content_item x ≡ head 0xE002 (68 + length x.payload) ++ behind
  unfolding content_item content60 head head8
  content_is = refl

  pub content_length : length (content_item x) ≡ 68 + length x.payload
  unfolding content_item content60 head head8
  content_length = omega arith

  content_headed : length x.payload ≤ 512 → Headed 0xE002 (68 + length x.payload) (content_item x)
  content_headed h = headed 0xE002 (68 + length x.payload) (content_item x) behind content_is (omega arith) (omega arith)

  pub content_size : length x.payload ≤ 512 → size (content_item x) ≡ padded (68 + length x.payload)
  content_size h = (content_headed h).sized

  content_held : drop 68 (content_item x) ≡ x.payload
  unfolding content_item content60 head head8
  content_held = refl

-- the fixed part and the item, as a node has them
module _ (x : Content) (f : ContentFits x) where
  content_fixed : content60 x ≡ head 0xE002 (68 + length x.payload) ++ spread (content_words x (length x.payload))
  unfolding content60 spread
  content_fixed = cc (low_byte x.compr f.compr)

  pub content_made : content_item x ≡ node_item 0xE002 (68 + length x.payload) (content_words x (length x.payload)) content_sums x.payload
  unfolding content_item spread
  content_made = cc content_fixed

module _ (x : Content) (f : ContentFits x) (summed : sum x.payload < 2 ^ 32) where
  content_csize : csize (content_item x) ≡ length x.payload
  unfolding content_item content60 head head8 le32
  content_csize = digits (length x.payload) (let h = f.short in omega arith)

  content_payload : payload (content_item x) ≡ x.payload
  content_payload =
      ap (λ n. take n (drop 68 (content_item x))) content_csize ∙ ap (take (length x.payload)) (content_held x)
      ∙ take_all (length x.payload) x.payload (omega arith)

  content_sum : le32 (content_item x) 64 ≡ sum (take 60 (content_item x))
  unfolding content_item content60 head head8 le32
  content_sum = digits (sum (content60 x)) (rw (content_fixed x f) (front_sum 0xE002 (68 + length x.payload) (content_words x (length x.payload))))

  payload_sum : le32 (content_item x) 60 ≡ sum x.payload
  unfolding content_item content60 head head8 le32
  payload_sum = digits (sum x.payload) summed

  content_tests : totlen (content_item x) ≡ 68 + length x.payload → all (content (content_item x)) ≡ true
  content_tests t = grind (arith, nat_tests, content_csize, content_sum, payload_sum, ap sum content_payload)

  content_well : WellFormed (content_item x)
  content_well =
      let it = content_item x in
      let h = content_headed x f.short in
      let l = content_length x in
      let r = content_reach it h.word h.kind_is in
      let t = h.total in
      (omega arith, content_passes (size it) it h.word (h.good (omega arith)) h.kind_is (content_tests t))

  content_read : read_content (content_item x) ≡ x
  unfolding read_content content_item content60 head head8 le32
  content_read =
      λ i. record {
        ino = digits x.ino f.ino i;
        version = digits x.version f.version i;
        mode = digits x.mode f.mode i;
        isize = digits x.isize f.isize i;
        offset = digits x.offset f.offset i;
        dsize = digits x.dsize f.dsize i;
        compr = x.compr;
        payload = content_payload i;
      }

  pub content_trip : ContentTrip x
  content_trip = (content_well, content_read)

pub content_trips : ContentTrips
content_trips x f b = content_trip x f (sum_fits x.payload b)
