-- Names and offences, test by test.
use Rattle.std.proofs.Common.{◌≡◌, ℕ, max, Bool, true, false, cond, not, ◌&&◌, eqb, leb, ◌⊎◌, List, [], ◌∷◌, length, Some, None, Option, refl, ap, ◌∙◌, inl, inr, ⊎_elim, arith}
use Rattle.std.proofs.lemmas.Bool.{eqb-true, leb-true, cond-false}
use Rattle.flash.specs.Cells.{Cell}
use Rattle.flash.specs.declared.refusal.Refusal.{Refusal}
use Rattle.flash.specs.declared.refusal.Refusal.TheVariants as refusal
use Rattle.nodes.specs.Items.{Item, kind, totlen, is_word, header, reach, stands}
use Rattle.nodes.specs.Records.{read_entry, read_content}
use Rattle.std.specs.List.{list_all}
use Rattle.nodes.specs.Offences.{either, plain, entry_offence, content_offence, offence, offence_of, Judged}
use Rattle.nodes.specs.Views.{View, zero_word, marker_of, padding_of, unknown_of, entry_of, content_of, view}
use Rattle.nodes.proofs.Standing.{stands_reads, headed, at_all}

-- a byte that names have
abbrev pub kept : ℕ → Bool
kept b = not (either (eqb b 0) (eqb b 0x2F))

pub plain_all : (name : List ℕ) → list_all kept name ≡ plain name
plain_all [] = refl
plain_all (b ∷ name) = go (either (eqb b 0) (eqb b 0x2F)) (plain_all name)
  where
    go : (t : Bool) → list_all kept name ≡ plain name → (not t && list_all kept name) ≡ cond t false (plain name)
    go true h = refl
    go false h = h

-- all bytes of an entry or a content that stands are at hand
whole_node : (cs : List Cell) (it : Item) → stands cs ≡ Some it → is_word it ≡ false → (eqb (kind it) 0xE001 ≡ true) ⊎ (eqb (kind it) 0xE002 ≡ true) → length it ≡ totlen it
unfolding reach
whole_node cs it s w k =
    let r = stands_reads cs it s in
    let low = leb-true 12 (totlen it) (at_all (header (length cs) it) (headed (length cs) it w r.good) 3) in
    let top : reach it ≡ max 12 (totlen it) = cond-false _ _ _ w ∙ go (eqb (kind it) 0xE001) (eqb (kind it) 0xE002) k in
    omega (arith, r.whole, top, low)
  where
    go : (x y : Bool) → (x ≡ true) ⊎ (y ≡ true) → cond x (max 12 (totlen it)) (cond y (max 12 (totlen it)) 12) ≡ max 12 (totlen it)
    go true y k = refl
    go false true k = refl
    go false false k = ⊎_elim (λ (e : false ≡ true). cc) (λ (e : false ≡ true). cc) k

-- the offence by what the item is, and the offence by its bytes
offence_view : (cs : List Cell) (it : Item) → stands cs ≡ Some it → offence_of (view it) ≡ offence it
unfolding view offence
offence_view cs it s =
    go (is_word it) (eqb (kind it) 0x2003) (eqb (kind it) 0x2004) (eqb (kind it) 0xE001) (eqb (kind it) 0xE002) (leb 0x8000 (kind it)) refl
    (λ e. low 0x2003 (eqb-true _ _ e) refl refl refl) (λ e. low 0x2004 (eqb-true _ _ e) refl refl refl) (λ w e. whole_node cs it s w (inl e)) (λ w e. whole_node cs it s w (inr e))
  where
    low : (v : ℕ) → kind it ≡ v → eqb v 0xE001 ≡ false → eqb v 0xE002 ≡ false → leb 0x8000 v ≡ false → (eqb (kind it) 0xE001 ≡ false) × (eqb (kind it) 0xE002 ≡ false) × (leb 0x8000 (kind it) ≡ false)
    low v e x y g = (ap (λ k. eqb k 0xE001) e ∙ x, ap (λ k. eqb k 0xE002) e ∙ y, ap (leb 0x8000) e ∙ g)

    go : (w m p x y g : Bool) → leb 0x8000 (kind it) ≡ g → (m ≡ true → (x ≡ false) × (y ≡ false) × (g ≡ false)) → (p ≡ true → (x ≡ false) × (y ≡ false) × (g ≡ false)) → (w ≡ false → x ≡ true → length it ≡ totlen it) → (w ≡ false → y ≡ true → length it ≡ totlen it) → offence_of (cond w zero_word (cond m (marker_of (totlen it)) (cond p (padding_of (totlen it)) (cond x (entry_of it (read_entry it)) (cond y (content_of it (read_content it)) (unknown_of (kind it) (totlen it))))))) ≡ cond w None (cond x (entry_offence (totlen it) (read_entry it)) (cond y (content_offence (totlen it) (read_content it)) (cond g (Some refusal.Kind) None)))
    go true m p x y g h a b c d = refl
    go false true p x y g h a b c d = let f = a refl in cc
    go false false true x y g h a b c d = let f = b refl in cc
    go false false false true y g h a b c d = ap (λ n. entry_offence n (read_entry it)) (c refl refl)
    go false false false false true g h a b c d = ap (λ n. content_offence n (read_content it)) (d refl refl)
    go false false false false false g h a b c d = ap (λ t. cond t (Some refusal.Kind) None) h

pub judged : (v : View) (r : Option Refusal) → r ≡ offence_of v → Judged v r
judged v r e = λ cs it s h. e ∙ ap offence_of h ∙ offence_view cs it s
