-- Twins among the records of either kind.
use Rattle.std.proofs.Common.{◌≡◌, ℕ, ◌<◌, ◌≤◌, Bool, true, false, cond, ◌&&◌, ◌||◌, eqb, List, [], ◌∷◌, Some, None, Option, Bor, MatchOption, map, length, get_or, take, sym, refl, ap, ◌∙◌, append-nil}
use Rattle.std.proofs.lemmas.List.{drop_more, drop_all}
use Rattle.std.specs.List.{flat_map, list_any}
use Rattle.tree.specs.Nodes.{entry, content}
use Rattle.tree.specs.Spent.{has_twin}
use Rattle.index.specs.declared.block.Block.{Block}
use Rattle.index.specs.declared.record.EntryRecord.{EntryRecord}
use Rattle.index.specs.declared.record.ContentRecord.{ContentRecord}
use Rattle.index.specs.Blocks.{entries_in, contents_in}
use Rattle.index.specs.Missed.{Kept, nodes_in, is_spent, kept_in, twin_of, missed, misses}
use Rattle.std.proofs.lemmas.List.Folds.{list_any-append}

any_map : {X Y : Type 0} (f : Y → Bool) (g : X → Y) (xs : List X) → list_any f (map g xs) ≡ list_any (λ x. f (g x)) xs
any_map f g [] = refl
any_map f g (x ∷ xs) = ap (λ b. f (g x) || b) (any_map f g xs)

any_none : {X : Type 0} (xs : List X) → list_any (λ x. false) xs ≡ false
any_none [] = refl
any_none (x ∷ xs) = any_none xs

or_false : (a : Bool) → (a || false) ≡ a
or_false true = refl
or_false false = refl

-- a test of the records of a block
any_nodes : (f : Kept → Bool) (b : Block) → list_any f (nodes_in b) ≡ (list_any (λ e. f (entry e)) (entries_in b) || list_any (λ c. f (content c)) (contents_in b))
any_nodes f b =
    list_any-append f (map entry (entries_in b)) (map content (contents_in b))
    ∙ ap (λ x. x || list_any f (map content (contents_in b))) (any_map f entry (entries_in b))
    ∙ ap (λ x. list_any (λ e. f (entry e)) (entries_in b) || x) (any_map f content (contents_in b))

-- a test that only one kind can pass, in all blocks that are not spent
module _ {R : Type 0} (listed : Block → List R) (f : R → Bool) (g : Kept → Bool) (same : (b : Block) → list_any g (nodes_in b) ≡ list_any f (listed b)) where
  kept_alike : (b : Block) → list_any g (kept_in nodes_in b) ≡ list_any f (kept_in listed b)
  kept_alike b = go (is_spent b.state)
    where
      go : (s : Bool) → list_any g (cond s [] (nodes_in b)) ≡ list_any f (cond s [] (listed b))
      go true = refl
      go false = same b

  all_alike : (bs : List Block) → list_any g (flat_map (kept_in nodes_in) bs) ≡ list_any f (flat_map (kept_in listed) bs)
  all_alike [] = refl
  all_alike (b ∷ bs) =
      list_any-append g (kept_in nodes_in b) (flat_map (kept_in nodes_in) bs)
      ∙ ap (λ x. x || list_any g (flat_map (kept_in nodes_in) bs)) (kept_alike b)
      ∙ ap (λ x. list_any f (kept_in listed b) || x) (all_alike bs)
      ∙ sym (list_any-append f (kept_in listed b) (flat_map (kept_in listed) bs))

pub entry_twins : (e : EntryRecord) (bs : List Block)
    → has_twin twin_of (entry e) (flat_map (kept_in nodes_in) bs) ≡ list_any (λ x. eqb x.pino e.pino && eqb x.version e.version) (flat_map (kept_in entries_in) bs)
entry_twins e bs =
    all_alike entries_in (λ x. eqb x.pino e.pino && eqb x.version e.version) (twin_of (entry e))
    (λ b. any_nodes (twin_of (entry e)) b ∙ ap (λ x. list_any (λ f. eqb f.pino e.pino && eqb f.version e.version) (entries_in b) || x) (any_none (contents_in b)) ∙ or_false _) bs

pub content_twins : (c : ContentRecord) (bs : List Block)
    → has_twin twin_of (content c) (flat_map (kept_in nodes_in) bs) ≡ list_any (λ x. eqb x.ino c.ino && eqb x.version c.version) (flat_map (kept_in contents_in) bs)
content_twins c bs =
    all_alike contents_in (λ x. eqb x.ino c.ino && eqb x.version c.version) (twin_of (content c))
    (λ b. any_nodes (twin_of (content c)) b ∙ ap (λ x. x || list_any (λ d. eqb d.ino c.ino && eqb d.version c.version) (contents_in b)) (any_none (entries_in b))) bs

-- a block, if there is one of the number, misses what it has of either kind
pub misses_at : (bs : List Block) (home : ℕ) (o : Option (Bor Block)) (r : Bool)
    → MatchOption o (length bs ≤ home) (λ b. (home < length bs) × (b.now ≡ get_or bs home b.now))
    → MatchOption o (r ≡ false) (λ b. r ≡ (list_any (λ e. missed bs home (entry e)) (entries_in b.now) || list_any (λ c. missed bs home (content c)) (contents_in b.now)))
    → r ≡ misses bs home
unfolding misses
misses_at bs home None r h e = e ∙ sym (ap (λ l. list_any (missed bs home) (flat_map nodes_in (take 1 l))) (drop_all home bs h))
misses_at bs home (Some b) r h e =
    e
    ∙ sym (any_nodes (missed bs home) b.now)
    ∙ ap (λ x. list_any (missed bs home) (nodes_in x)) h.1
    ∙ ap (list_any (missed bs home)) (sym (append-nil (nodes_in (get_or bs home b.now))))
    ∙ sym (ap (λ l. list_any (missed bs home) (flat_map nodes_in (take 1 l))) (drop_more bs home b.now h.0))
