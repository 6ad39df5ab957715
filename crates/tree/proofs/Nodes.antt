-- Standing in a pool, and keys.
use Rattle.std.proofs.Common.{◌≡◌, ℕ, Bool, true, false, ◌&&◌, eqb, List, [], ◌∷◌, sym, refl, ap, ◌∙◌, arith}
use Rattle.std.proofs.lemmas.Bool.Decides.{Decides-eqb}
use Rattle.std.proofs.lemmas.Slice.Eq.{bytes_eq-Decides}
use Rattle.std.specs.Str.{bytes_eq}
use Rattle.nodes.specs.Records.{Entry, Content}
use Rattle.tree.specs.Newest.{In, first, later, Within}
use Rattle.tree.specs.Nodes.{Node, entry, content, entries, contents, titled, of_file, covers, span_of, Uniq}
use Rattle.tree.proofs.Newest.{Alone}

-- the look-ups' keys, of whole nodes
abbrev pub entry_version : Entry → ℕ
entry_version e = e.version

abbrev pub content_version : Content → ℕ
content_version c = c.version

abbrev pub of_number : ℕ → Content → Bool
of_number k c = of_file k (span_of c)

abbrev pub of_byte : ℕ → ℕ → Content → Bool
of_byte k i c = of_file k (span_of c) && covers i (span_of c)

pub entry_content : {e : Entry} {c : Content} → ◌≡◌ {A = Node} (entry e) (content c) → ⊥
entry_content q = let z : ◌≡◌ {A = ℕ} 0 1 = cc in omega arith

pub content_entry : {e : Entry} {c : Content} → ◌≡◌ {A = Node} (content c) (entry e) → ⊥
content_entry q = let z : ◌≡◌ {A = ℕ} 0 1 = cc in omega arith

pub entry_in : {e : Entry} (p : List Node) → In (entry e) p → In e (entries p)
entry_in [] i = elim i [ ]
entry_in (entry f ∷ p) (first q) = first (cc)
entry_in (entry f ∷ p) (later i) = later (entry_in p i)
entry_in (content c ∷ p) (first q) = absurd (entry_content q)
entry_in (content c ∷ p) (later i) = entry_in p i

pub in_entry : {e : Entry} (p : List Node) → In e (entries p) → In (entry e) p
in_entry [] i = elim i [ ]
in_entry (entry f ∷ p) (first q) = first (ap entry q)
in_entry (entry f ∷ p) (later i) = later (in_entry p i)
in_entry (content c ∷ p) i = later (in_entry p i)

pub content_in : {c : Content} (p : List Node) → In (content c) p → In c (contents p)
content_in [] i = elim i [ ]
content_in (content d ∷ p) (first q) = first (cc)
content_in (content d ∷ p) (later i) = later (content_in p i)
content_in (entry e ∷ p) (first q) = absurd (content_entry q)
content_in (entry e ∷ p) (later i) = content_in p i

pub in_content : {c : Content} (p : List Node) → In c (contents p) → In (content c) p
in_content [] i = elim i [ ]
in_content (content d ∷ p) (first q) = first (ap content q)
in_content (content d ∷ p) (later i) = later (in_content p i)
in_content (entry e ∷ p) i = later (in_content p i)

pub both : (a b : Bool) → (a && b) ≡ true → (a ≡ true) × (b ≡ true)
both true true q = (refl, refl)
both true false q = (refl, q)
both false true q = (q, refl)
both false false q = (q, q)

pub eqb_self : (n : ℕ) → eqb n n ≡ true
eqb_self n = (Decides-eqb n n).1 refl

pub titled_is : (d : ℕ) (n : List ℕ) (e : Entry) → titled d n e ≡ true → (e.pino ≡ d) × (e.name ≡ n)
unfolding titled
titled_is d n e q =
    let h = both (eqb e.pino d) (bytes_eq e.name n) q in
    ((Decides-eqb e.pino d).0 h.0, (bytes_eq-Decides e.name n).0 h.1)

pub titled_self : (e : Entry) → titled e.pino e.name e ≡ true
unfolding titled
titled_self e = rw (eqb_self e.pino) ((bytes_eq-Decides e.name e.name).1 refl)

pub of_number_is : (k : ℕ) (c : Content) → of_number k c ≡ true → c.ino ≡ k
unfolding of_file
of_number_is k c q = (Decides-eqb c.ino k).0 q

pub of_number_self : (c : Content) → of_number c.ino c ≡ true
unfolding of_file
of_number_self c = eqb_self c.ino

pub of_byte_is : (k i : ℕ) (c : Content) → of_byte k i c ≡ true → c.ino ≡ k
of_byte_is k i c q = of_number_is k c (both (of_number k c) (covers i (span_of c)) q).0

pub title_alone : (p : List Node) → Uniq p → (d : ℕ) (n : List ℕ) → Alone entry_version (titled d n) (entries p)
title_alone p u d n e f i j a b v =
    u.entry e f (in_entry p i) (in_entry p j) ((titled_is d n e a).0 ∙ sym (titled_is d n f b).0) v

pub last_alone : (p : List Node) → Uniq p → (k : ℕ) → Alone content_version (of_number k) (contents p)
last_alone p u k c d i j a b v =
    u.content c d (in_content p i) (in_content p j) (of_number_is k c a ∙ sym (of_number_is k d b)) v

pub giver_alone : (p : List Node) → Uniq p → (k i : ℕ) → Alone content_version (of_byte k i) (contents p)
giver_alone p u k i c d x y a b v =
    u.content c d (in_content p x) (in_content p y) (of_byte_is k i c a ∙ sym (of_byte_is k i d b)) v

pub uniq_within : (p q : List Node) → Within q p → Uniq p → Uniq q
uniq_within p q w u = record {
  entry = λ e f i j. u.entry e f (w (entry e) i) (w (entry f) j);
  content = λ c d i j. u.content c d (w (content c) i) (w (content d) j);
}
