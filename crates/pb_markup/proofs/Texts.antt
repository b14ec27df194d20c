-- Nothing of a text becomes markup.
use Rattle.std.proofs.Common.{◌≡◌, ◌∙◌, ℕ, ◌+◌, ◌++◌, List, [], ◌∷◌, All, Bool, true, false, ap, refl, sym, arith, length, flat_map, zero, suc}
use Rattle.std.specs.Prelude.{◌==◌, ◌||◌, if◌then◌else◌, codes, filter, fold, map}
use Rattle.std.proofs.lemmas.Bool.{ne_eqb}
use Rattle.std.proofs.lemmas.List.{length-append}
use Rattle.std.proofs.lemmas.List.Elements.{All-head, All-tail, filter-append}
use Rattle.pb_markup.specs.Escapes.{IsPlain, escape, escaped, is_ampersand, is_special}
use Rattle.pb_markup.specs.Pieces.{Piece, Open, Words, Amount, Headline, Line, Close, Shows, Written, attribute, begin_tag, blank, blank_value, close_innermost, end_tag, ended, innermost, is_markup, others, rendering, start, write}
use Rattle.pb_markup.specs.Names.{is_void, opening, tag_name}
use Rattle.pb_markup.specs.declared.tag.Name.{Name}
use Rattle.pb_markup.specs.declared.tag.Tag.{Tag}
use Rattle.pb_markup.proofs.Plain.{plain-escaped}

none-plain : (bytes : List ℕ) → All IsPlain bytes → filter is_markup bytes ≡ []
none-plain [] plain = refl
none-plain (b ∷ bytes) plain =
    let head = All-head IsPlain b bytes plain in
    rw (
      ne_eqb b 60 head.no_less,
      ne_eqb b 62 head.no_greater,
      ne_eqb b 34 head.no_quote,
      ne_eqb b 39 head.no_apostrophe,
    ) (none-plain bytes (All-tail IsPlain b bytes plain))

none-escaped : (bytes : List ℕ) → filter is_markup (escaped bytes) ≡ []
none-escaped bytes = none-plain (escaped bytes) (plain-escaped bytes)

-- what is added on both sides has the same markup
added : (x y u v : List ℕ) → filter is_markup x ≡ filter is_markup y → filter is_markup u ≡ filter is_markup v
    → filter is_markup (x ++ u) ≡ filter is_markup (y ++ v)
added x y u v first second =
    filter-append is_markup x u
    ∙ ap (λ (l : List ℕ). l ++ filter is_markup u) first
    ∙ ap (λ (l : List ℕ). filter is_markup y ++ l) second
    ∙ sym (filter-append is_markup y v)

same-escaped : (x y : List ℕ) → filter is_markup (escaped x) ≡ filter is_markup (escaped y)
same-escaped x y = none-escaped x ∙ sym (none-escaped y)

same-attribute : (a : Name × List ℕ) → filter is_markup (attribute a) ≡ filter is_markup (attribute (blank_value a))
same-attribute a =
    added (opening a.0) (opening a.0) _ _ refl
    (added (escaped a.1) (escaped []) (codes "\"") (codes "\"") (same-escaped a.1 []) refl)

same-attributes : (attributes : List (Name × List ℕ))
    → filter is_markup (flat_map attribute attributes)
    ≡ filter is_markup (flat_map attribute (map blank_value attributes))
same-attributes [] = refl
same-attributes (a ∷ attributes) =
    added (attribute a) (attribute (blank_value a)) _ _ (same-attribute a) (same-attributes attributes)

same-begin : (t : Tag) (attributes : List (Name × List ℕ))
    → filter is_markup (begin_tag t attributes) ≡ filter is_markup (begin_tag t (map blank_value attributes))
same-begin t attributes =
    added (codes "<") (codes "<") (tag_name t ++ (flat_map attribute attributes ++ codes ">"))
    (tag_name t ++ (flat_map attribute (map blank_value attributes) ++ codes ">")) refl
    (added (tag_name t) (tag_name t) (flat_map attribute attributes ++ codes ">")
    (flat_map attribute (map blank_value attributes) ++ codes ">") refl
    (added (flat_map attribute attributes) (flat_map attribute (map blank_value attributes)) (codes ">") (codes ">")
    (same-attributes attributes) refl))

-- what is written behind pieces of the same markup
abbrev closed : Bool → Written → Written
closed c w = if c then w else record { text = w.text ++ end_tag (innermost w.opened); opened = others w.opened }

abbrev is-none : List Tag → Bool
is-none tags = length tags == 0

opened-closed : (c : Bool) (a b : Written) → a.opened ≡ b.opened → (closed c a).opened ≡ (closed c b).opened
opened-closed true a b o = o
opened-closed false a b o = ap others o

text-closed : (c : Bool) (a b : Written) → a.opened ≡ b.opened → filter is_markup a.text ≡ filter is_markup b.text
    → filter is_markup (closed c a).text ≡ filter is_markup (closed c b).text
text-closed true a b o x = x
text-closed false a b o x =
    added a.text b.text (end_tag (innermost a.opened)) (end_tag (innermost b.opened)) x (ap (λ (tags : List Tag). filter is_markup (end_tag (innermost tags))) o)

same-opened : (s t : Shows) (p : Piece) (a b : Written) → a.opened ≡ b.opened
    → (write s a p).opened ≡ (write t b (blank p)).opened
same-opened s t (Open g attributes) a b o =
    ap (λ (tags : List Tag). if is_void g then tags else tags ++ g ∷ []) o
same-opened s t (Words text) a b o = o
same-opened s t (Amount f) a b o = o
same-opened s t Headline a b o = o
same-opened s t Line a b o = o
same-opened s t Close a b o =
    opened-closed (is-none a.opened) a b o
    ∙ ap (λ (c : Bool). (closed c b).opened) (ap is-none o)

same-text : (s t : Shows) (p : Piece) (a b : Written) → a.opened ≡ b.opened
    → filter is_markup a.text ≡ filter is_markup b.text
    → filter is_markup (write s a p).text ≡ filter is_markup (write t b (blank p)).text
same-text s t (Open g attributes) a b o x =
    added a.text b.text (begin_tag g attributes) (begin_tag g (map blank_value attributes)) x (same-begin g attributes)
same-text s t (Words text) a b o x = added a.text b.text (escaped text) (escaped []) x (same-escaped text [])
same-text s t (Amount f) a b o x = added a.text b.text (escaped (s.amount f)) (escaped []) x (same-escaped (s.amount f) [])
same-text s t Headline a b o x = added a.text b.text (escaped s.headline) (escaped []) x (same-escaped s.headline [])
same-text s t Line a b o x = added a.text b.text (escaped s.line) (escaped []) x (same-escaped s.line [])
same-text s t Close a b o x =
    text-closed (is-none a.opened) a b o x
    ∙ ap (λ (c : Bool). filter is_markup (closed c b).text) (ap is-none o)

-- and behind that the ends of as many elements
same-ends : (s t : Shows) (n : ℕ) (a b : Written) → a.opened ≡ b.opened
    → filter is_markup a.text ≡ filter is_markup b.text
    → ((close_innermost n a).opened ≡ (close_innermost n b).opened)
    × (filter is_markup (close_innermost n a).text ≡ filter is_markup (close_innermost n b).text)
unfolding close_innermost
same-ends s t zero a b o x = (o, x)
same-ends s t (suc n) a b o x =
    let before = same-ends s t n a b o x in (
      same-opened s t Close (close_innermost n a) (close_innermost n b) before.0,
      same-text s t Close (close_innermost n a) (close_innermost n b) before.0 before.1,
    )

same-written : (s t : Shows) (pieces : List Piece) (a b : Written) → a.opened ≡ b.opened
    → filter is_markup a.text ≡ filter is_markup b.text
    → filter is_markup (ended (fold (write s) a pieces)).text
    ≡ filter is_markup (ended (fold (write t) b (map blank pieces))).text
same-written s t [] a b o x =
    (same-ends s t (length a.opened) a b o x).1
    ∙ ap (λ (n : ℕ). filter is_markup (close_innermost n b).text) (ap length o)
same-written s t (p ∷ pieces) a b o x =
    same-written s t pieces (write s a p) (write t b (blank p)) (same-opened s t p a b o) (same-text s t p a b o x)

pub same-markup : (s t : Shows) (pieces : List Piece)
    → filter is_markup (rendering s pieces) ≡ filter is_markup (rendering t (map blank pieces))
same-markup s t pieces = same-written s t pieces start start refl refl

-- each ampersand is that of an escape
chosen : (c : Bool) (xs ys : List ℕ) (d : Bool) → length (filter is_ampersand xs) ≡ 1
    → (c ≡ false → length (filter is_ampersand ys) ≡ length (filter (λ (b : Bool). b) (d ∷ [])))
    → length (filter is_ampersand (if c then xs else ys)) ≡ length (filter (λ (b : Bool). b) ((c || d) ∷ []))
chosen true xs ys d one h = one
chosen false xs ys d one h = h refl

of-byte : (b : ℕ)
    → length (filter is_ampersand (escape b)) ≡ length (filter (λ (x : Bool). x) (is_special b ∷ []))
of-byte b =
    chosen (b == 60) _ _ _ refl (λ no_less.
    chosen (b == 62) _ _ _ refl (λ no_greater.
    chosen (b == 38) _ _ _ refl (λ no_amp.
    chosen (b == 34) _ _ _ refl (λ no_quote.
    last (b == 39) no_amp))))
  where
    last : (c : Bool) → (b == 38) ≡ false
        → length (filter is_ampersand (if c then codes "&#39;" else b ∷ [])) ≡ length (filter (λ (x : Bool). x) (c ∷ []))
    last true h = refl
    last false h = rw h refl

counted : (c : Bool) (b : ℕ) (bytes : List ℕ) → is_special b ≡ c
    → length (filter is_special (b ∷ bytes)) ≡ length (filter (λ (x : Bool). x) (c ∷ [])) + length (filter is_special bytes)
counted true b bytes is = rw is (omega arith)
counted false b bytes is = rw is (omega arith)

each-ampersand : (bytes : List ℕ)
    → length (filter is_ampersand (flat_map escape bytes)) ≡ length (filter is_special bytes)
each-ampersand [] = refl
each-ampersand (b ∷ bytes) =
    let first = of-byte b in
    let rest = each-ampersand bytes in
    let sum = counted (is_special b) b bytes refl in
    ap length (filter-append is_ampersand (escape b) (flat_map escape bytes))
    ∙ length-append (filter is_ampersand (escape b)) (filter is_ampersand (flat_map escape bytes))
    ∙ omega (arith, first, rest, sum)

pub ampersands : (bytes : List ℕ) → length (filter is_ampersand (escaped bytes)) ≡ length (filter is_special bytes)
unfolding escaped
ampersands bytes = each-ampersand bytes
