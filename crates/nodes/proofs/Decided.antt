-- What stands at a place, as the reader decides it step by step from the bytes of the block from there on.
use Rattle.std.proofs.Common.{◌≡◌, ℕ, ◌<◌, ◌≤◌, Bool, true, false, cond, eqb, leb, List, length, take, Some, None, Option, Bor, sym, refl, ap, ◌∙◌, subst, arith, length-take}
use Rattle.std.proofs.lemmas.List.{length-take-le, take-take}
use Rattle.std.proofs.lemmas.Bool.{leb-true, le-leb, lt-leb, eq-eqb, ne_eqb, cond-true, cond-false}
use Rattle.std.specs.Bool.{then_some}
use Rattle.flash.specs.Cells.{front}
use Rattle.kinds.specs.declared.Kind.TheVariants as kinds
use Rattle.kinds.specs.Kinds.{kind_with}
use Rattle.nodes.specs.Fields.{le32, padded, all}
use Rattle.nodes.specs.Items.{Item, kind, totlen, is_word, reach, header, entry, content, offered, stands, size}
use Rattle.nodes.specs.Records.{Entry, Content, read_entry, read_content}
use Rattle.nodes.specs.Headers.{Head, head, passing, Headed}
use Rattle.nodes.specs.Passing.{entry_in, content_in}
use Rattle.nodes.specs.Seen.{seen_from, readable, IsRead}
use Rattle.nodes.specs.Offences.{either}
use Rattle.nodes.specs.Views.{View, zero_word, marker_of, padding_of, unknown_of, entry_of, content_of, view, viewed, sized}
use Rattle.nodes.specs.declared.tail.Tail.{Tail}
use Rattle.nodes.specs.Tail.{seen_behind}
use Rattle.nodes.proofs.Standing.{reach_more, at_all}
use Rattle.nodes.proofs.Cuts.{length_seen, front_seen, reaches, falls_short}
use Rattle.nodes.proofs.Fronts.{le32_cut, le16_cut, word_cut, body, none_short, zero_offered, none_header, none_bad, plain_offered, node_offered, offered_cut}
use Rattle.nodes.proofs.Viewed.{kind_known, kind_unknown, view_word, view_kind, view_unknown, size_word, size_other}

-- how many bytes from a place on can be read
abbrev got : List Bool → ℕ → List ℕ → ℕ
got fs at bs = length (front (seen_from fs at bs))

got_within : (fs : List Bool) (at : ℕ) (bs : List ℕ) → got fs at bs ≤ length bs
got_within fs at bs = omega (arith, ap length (front_seen fs at bs), length-take (got fs at bs) bs)

front_part : (fs : List Bool) (at : ℕ) (bs : List ℕ) (n : ℕ) → n ≤ got fs at bs → take n (front (seen_from fs at bs)) ≡ take n bs
front_part fs at bs n h = ap (take n) (front_seen fs at bs) ∙ take-take n (got fs at bs) bs h

stands_is : (fs : List Bool) (at : ℕ) (bs : List ℕ) → stands (seen_from fs at bs) ≡ offered (length bs) (take (got fs at bs) bs)
unfolding stands
stands_is fs at bs =
    ap (λ n. offered n (front (seen_from fs at bs))) (length_seen fs at bs) ∙ ap (offered (length bs)) (front_seen fs at bs)

-- the code's answer to whether the first n bytes are there and can be read
pub front_none : (t : Tail) (n : ℕ) (r : Option (Bor (List ℕ))) → r ≡ None → length t.bytes.now < n → IsRead (seen_behind t) n r
front_none t n r e l =
    subst (IsRead (seen_behind t) n) (sym e) (let w = got_within t.readable.now t.at t.bytes.now in omega arith)

pub front_some : (t : Tail) (n : ℕ) (r : Option (Bor (List ℕ))) (b : Bool) (f : Bor (List ℕ)) → r ≡ then_some b f → b ≡ readable t.readable.now t.at n → n ≤ length t.bytes.now → f.now ≡ take n t.bytes.now → IsRead (seen_behind t) n r
front_some t n r b f e h l k = subst (IsRead (seen_behind t) n) (sym e) (go b (sym h))
  where
    go : (b : Bool) → readable t.readable.now t.at n ≡ b → IsRead (seen_behind t) n (then_some b f)
    go true e = let w = reaches t.readable.now t.at n t.bytes.now l e in (w, k ∙ sym (front_part t.readable.now t.at t.bytes.now n w))
    go false e = falls_short t.readable.now t.at n t.bytes.now e

-- the word w that the code reads of the first four bytes
module _ (fs : List Bool) (at : ℕ) (bs : List ℕ) {word : List ℕ} (f : (4 ≤ got fs at bs) × (word ≡ take 4 (front (seen_from fs at bs)))) where
  pub word_long : 4 ≤ length word
  word_long = omega (arith, f.0, ap length f.1, length-take-le 4 (front (seen_from fs at bs)) f.0)

  pub word_read : {w : ℕ} → w ≡ le32 word 0 → w ≡ le32 bs 0
  word_read r = r ∙ ap (λ s. le32 s 0) (f.1 ∙ front_part fs at bs 4 f.0) ∙ le32_cut bs 4 0 (omega arith)

  pub word_other : {w : ℕ} → w ≡ le32 word 0 → (w ≡ 0 → ⊥) → is_word bs ≡ false
  word_other r n = ne_eqb _ 0 (λ z. n (word_read r ∙ z))

pub none_word : (fs : List Bool) (at : ℕ) (bs : List ℕ) → got fs at bs < 4 → None ≡ sized (stands (seen_from fs at bs))
none_word fs at bs e = sym (ap sized (stands_is fs at bs ∙ none_short (length bs) bs (got fs at bs) e))

pub word_sized : (fs : List Bool) (at : ℕ) (bs : List ℕ) → 4 ≤ got fs at bs → le32 bs 0 ≡ 0 → Some (zero_word, 4) ≡ sized (stands (seen_from fs at bs))
word_sized fs at bs r z =
    let w : is_word bs ≡ true = eq-eqb _ _ z in
    let c : is_word (take 4 bs) ≡ true = word_cut bs 4 (omega arith) ∙ w in
    sym (ap sized (stands_is fs at bs ∙ zero_offered (length bs) bs (got fs at bs) r (got_within fs at bs) w)
    ∙ ap (λ v. Some (v, size (take 4 bs))) (view_word (take 4 bs) c) ∙ ap (λ n. Some (zero_word, n)) (size_word (take 4 bs) c))

pub none_head : (fs : List Bool) (at : ℕ) (bs : List ℕ) → 4 ≤ got fs at bs → is_word bs ≡ false → got fs at bs < 12 → None ≡ sized (stands (seen_from fs at bs))
none_head fs at bs r w e =
    sym (ap sized (stands_is fs at bs ∙ none_header (length bs) bs (got fs at bs) r e w))

none_passing : (a b : Bool) (h : Head) → a ≡ true → None ≡ cond a (cond b (Some h) None) None → b ≡ false
none_passing a false h t e = refl
none_passing true true h t e = cc
none_passing false true h t e = cc

some_passing : (a b : Bool) (g h : Head) → Some g ≡ cond a (cond b (Some h) None) None → (b ≡ true) × (g ≡ h)
some_passing true true g h e = (refl, cc)
some_passing true false g h e = cc
some_passing false b g h e = cc

pub passing_some : (bs : List ℕ) (h : Head) → Some h ≡ passing bs → (all (header (length bs) bs) ≡ true) × (h ≡ head bs)
passing_some bs h e = some_passing (leb 12 (length bs)) (all (header (length bs) bs)) h (head bs) e

given : {X : Type 0} (it : Item) (b : Bool) (e x : X) (v : X → View) → view it ≡ v x → Some e ≡ cond b (Some x) None → Some (v e) ≡ viewed (cond b (Some it) None)
given it true e x v w h = cc
given it false e x v w h = cc

none_given : {X : Type 0} (it : Item) (b : Bool) (x : X) → None ≡ cond b (Some x) None → None ≡ viewed (cond b (Some it) None)
none_given it true x h = cc
none_given it false x h = refl

-- a place that is no zero word, and of which the header can be read
module _ (fs : List Bool) (at : ℕ) (bs : List ℕ) (twelve : 12 ≤ got fs at bs) (other : is_word bs ≡ false) where
  pub none_sound : None ≡ passing bs → None ≡ sized (stands (seen_from fs at bs))
  none_sound e =
      let b = none_passing (leb 12 (length bs)) (all (header (length bs) bs)) (head bs) (le-leb _ _ (let w = got_within fs at bs in omega arith)) e in
      sym (ap sized (stands_is fs at bs ∙ none_bad (length bs) bs (got fs at bs) twelve (got_within fs at bs) other b))

  sizes : (o : Option Item) → stands (seen_from fs at bs) ≡ o → (v : View) (n : ℕ) → Some v ≡ viewed o → n ≡ padded (totlen bs) → Some (v, n) ≡ sized o
  sizes None s v n e p = cc
  sizes (Some it) s v n e p =
      let c = offered_cut (length bs) bs (got fs at bs) twelve (got_within fs at bs) other it (sym (stands_is fs at bs) ∙ s) in
      let r = reach_more bs other in
      let w : is_word it ≡ false = ap is_word (sym c) ∙ word_cut bs (reach bs) (omega arith) ∙ other in
      let t : totlen it ≡ totlen bs = ap totlen (sym c) ∙ le32_cut bs (reach bs) 4 (omega arith) in
      let z : size it ≡ n = size_other it w ∙ ap padded t ∙ sym p in
      let q : v ≡ view it = cc in
      cc

  pub some_sized : (v : View) (n : ℕ) → Some v ≡ viewed (stands (seen_from fs at bs)) → n ≡ padded (totlen bs) → Some (v, n) ≡ sized (stands (seen_from fs at bs))
  some_sized v n e p = sizes (stands (seen_from fs at bs)) refl v n e p

  pub none_sized : None ≡ viewed (stands (seen_from fs at bs)) → None ≡ sized (stands (seen_from fs at bs))
  none_sized e = go (stands (seen_from fs at bs)) e
    where
      go : (o : Option Item) → None ≡ viewed o → None ≡ sized o
      go None e = refl
      go (Some it) e = cc

-- a place with a header that passes
module _ {fs : List Bool} {at : ℕ} {bs : List ℕ} {h : Head} (headed : Headed fs at bs h) where
  sound : all (header (length bs) bs) ≡ true
  sound = (passing_some bs h headed.passes).0

  kind_is : h.kind ≡ kind bs
  kind_is = ap (λ g. g.kind) (passing_some bs h headed.passes).1

  length_is : h.totlen ≡ totlen bs
  length_is = ap (λ g. g.totlen) (passing_some bs h headed.passes).1

  twelve_word : is_word (take 12 bs) ≡ false
  twelve_word = word_cut bs 12 (omega arith) ∙ headed.no_word

  twelve_kind : kind (take 12 bs) ≡ h.kind
  twelve_kind = le16_cut bs 12 2 (omega arith) ∙ sym kind_is

  twelve_length : totlen (take 12 bs) ≡ h.totlen
  twelve_length = le32_cut bs 12 4 (omega arith) ∙ sym length_is

  not_kind : (v n : ℕ) → eqb v n ≡ false → h.kind ≡ v → eqb (kind bs) n ≡ false
  not_kind v n f e = ap (λ k. eqb k n) (sym kind_is ∙ e) ∙ f

  plain : (v : View) → eqb h.kind 0xE001 ≡ false → eqb h.kind 0xE002 ≡ false → view (take 12 bs) ≡ v → Some v ≡ viewed (stands (seen_from fs at bs))
  plain v p q e =
      sym (ap viewed (stands_is fs at bs ∙ plain_offered (length bs) bs (got fs at bs) (leb-true _ _ headed.all_read) (got_within fs at bs) headed.no_word sound
      (not_kind h.kind 0xE001 p refl) (not_kind h.kind 0xE002 q refl)) ∙ ap Some e)

  pub unknown_viewed : kind_with h.kind ≡ None → Some (unknown_of h.kind h.totlen) ≡ viewed (stands (seen_from fs at bs))
  unknown_viewed u =
      let f = kind_unknown h.kind u in
      plain _ f.2 f.3 (view_unknown (take 12 bs) h.kind twelve_word twelve_kind u ∙ ap (unknown_of h.kind) twelve_length)

  pub marker_viewed : kind_with h.kind ≡ Some kinds.Marker → Some (marker_of h.totlen) ≡ viewed (stands (seen_from fs at bs))
  marker_viewed k =
      let e = kind_known h.kind kinds.Marker k in
      plain _ (ap (λ n. eqb n 0xE001) e) (ap (λ n. eqb n 0xE002) e) (view_kind (take 12 bs) 0x2003 twelve_word (twelve_kind ∙ e) ∙ ap marker_of twelve_length)

  pub padding_viewed : kind_with h.kind ≡ Some kinds.Padding → Some (padding_of h.totlen) ≡ viewed (stands (seen_from fs at bs))
  padding_viewed k =
      let e = kind_known h.kind kinds.Padding k in
      plain _ (ap (λ n. eqb n 0xE001) e) (ap (λ n. eqb n 0xE002) e) (view_kind (take 12 bs) 0x2004 twelve_word (twelve_kind ∙ e) ∙ ap padding_of twelve_length)

  long : 12 ≤ h.totlen
  long = let low = leb-true 12 (totlen bs) (at_all (header (length bs) bs) sound 3) in omega (arith, length_is)

  -- an entry or a content, if not all its bytes can be read, and if the code takes them
  module _ (v : ℕ) (is : h.kind ≡ v) (node : either (eqb v 0xE001) (eqb v 0xE002) ≡ true) where
    node_stands : stands (seen_from fs at bs) ≡ cond (leb h.totlen (got fs at bs)) (cond (body (take h.totlen bs)) (Some (take h.totlen bs)) None) None
    node_stands =
        stands_is fs at bs
        ∙ node_offered (length bs) bs (got fs at bs) (leb-true _ _ headed.all_read) (got_within fs at bs) headed.no_word sound (ap (λ n. either (eqb n 0xE001) (eqb n 0xE002)) (sym kind_is ∙ is) ∙ node)
        ∙ ap (λ l. cond (leb l (got fs at bs)) (cond (body (take l bs)) (Some (take l bs)) None) None) (sym length_is)

    node_short : got fs at bs < h.totlen → None ≡ viewed (stands (seen_from fs at bs))
    node_short l = sym (ap viewed (node_stands ∙ cond-false _ _ _ (lt-leb _ _ l)))

    node_at : (it : Item) (b : Bool) → h.totlen ≤ got fs at bs → it ≡ take h.totlen bs → body it ≡ b → stands (seen_from fs at bs) ≡ cond b (Some it) None
    node_at it b l same f =
        node_stands ∙ cond-true _ _ _ (le-leb _ _ l)
        ∙ ap (λ i. cond (body i) (Some i) None) (sym same) ∙ ap (λ t. cond t (Some it) None) f

  pub entry_short : kind_with h.kind ≡ Some kinds.Entry → got fs at bs < h.totlen → None ≡ viewed (stands (seen_from fs at bs))
  entry_short k = node_short 0xE001 (kind_known h.kind kinds.Entry k) refl

  pub content_short : kind_with h.kind ≡ Some kinds.Content → got fs at bs < h.totlen → None ≡ viewed (stands (seen_from fs at bs))
  content_short k = node_short 0xE002 (kind_known h.kind kinds.Content k) refl

  module _ {it : Item} (f : (h.totlen ≤ got fs at bs) × (it ≡ take h.totlen (front (seen_from fs at bs)))) where
    same : it ≡ take h.totlen bs
    same = f.1 ∙ front_part fs at bs h.totlen f.0

    node_word : is_word it ≡ false
    node_word = ap is_word same ∙ word_cut bs h.totlen (omega (arith, long)) ∙ headed.no_word

    node_kind : kind it ≡ h.kind
    node_kind = ap kind same ∙ le16_cut bs h.totlen 2 (omega (arith, long)) ∙ sym kind_is

    pub node_length : length it ≡ totlen it
    node_length =
        ap length f.1 ∙ length-take-le h.totlen (front (seen_from fs at bs)) f.0
        ∙ length_is ∙ sym (le32_cut bs h.totlen 4 (omega (arith, long))) ∙ ap totlen (sym same)

    entry_stands : h.kind ≡ 0xE001 → stands (seen_from fs at bs) ≡ cond (all (entry it)) (Some it) None
    entry_stands k = node_at 0xE001 k refl it _ f.0 same (cond-true _ _ _ (ap (λ n. eqb n 0xE001) (node_kind ∙ k)))

    content_stands : h.kind ≡ 0xE002 → stands (seen_from fs at bs) ≡ cond (all (content it)) (Some it) None
    content_stands k =
        node_at 0xE002 k refl it _ f.0 same (cond-false _ _ _ (ap (λ n. eqb n 0xE001) (node_kind ∙ k)) ∙ cond-true _ _ _ (ap (λ n. eqb n 0xE002) (node_kind ∙ k)))

    pub entry_viewed : kind_with h.kind ≡ Some kinds.Entry → (e : Entry) → Some e ≡ entry_in it → Some (entry_of it e) ≡ viewed (stands (seen_from fs at bs))
    entry_viewed k e x =
        let v = kind_known h.kind kinds.Entry k in
        given it (all (entry it)) e (read_entry it) (entry_of it) (view_kind it 0xE001 node_word (node_kind ∙ v)) x ∙ sym (ap viewed (entry_stands v))

    pub content_viewed : kind_with h.kind ≡ Some kinds.Content → (e : Content) → Some e ≡ content_in it → Some (content_of it e) ≡ viewed (stands (seen_from fs at bs))
    content_viewed k e x =
        let v = kind_known h.kind kinds.Content k in
        given it (all (content it)) e (read_content it) (content_of it) (view_kind it 0xE002 node_word (node_kind ∙ v)) x ∙ sym (ap viewed (content_stands v))

    pub entry_fails : kind_with h.kind ≡ Some kinds.Entry → None ≡ entry_in it → None ≡ viewed (stands (seen_from fs at bs))
    entry_fails k x = none_given it (all (entry it)) (read_entry it) x ∙ sym (ap viewed (entry_stands (kind_known h.kind kinds.Entry k)))

    pub content_fails : kind_with h.kind ≡ Some kinds.Content → None ≡ content_in it → None ≡ viewed (stands (seen_from fs at bs))
    content_fails k x = none_given it (all (content it)) (read_content it) x ∙ sym (ap viewed (content_stands (kind_known h.kind kinds.Content k)))
