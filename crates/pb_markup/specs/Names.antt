-- The elements and attributes that a page may have: all of them are the program's own.
use Rattle.std.specs.Prelude.{ℕ, Bool, true, false, List, codes}
use Rattle.pb_markup.specs.declared.tag.Name.{Name}
use Rattle.pb_markup.specs.declared.tag.Name.TheVariants as name
use Rattle.pb_markup.specs.declared.tag.Tag.{Tag}
use Rattle.pb_markup.specs.declared.tag.Tag.TheVariants as tag

-- the name of an element
abbrev pub tag_name : Tag → List ℕ
tag_name tag.Html = codes "html"
tag_name tag.Head = codes "head"
tag_name tag.Title = codes "title"
tag_name tag.Meta = codes "meta"
tag_name tag.Style = codes "style"
tag_name tag.Body = codes "body"
tag_name tag.Header = codes "header"
tag_name tag.Main = codes "main"
tag_name tag.Section = codes "section"
tag_name tag.Footer = codes "footer"
tag_name tag.Nav = codes "nav"
tag_name tag.H1 = codes "h1"
tag_name tag.H2 = codes "h2"
tag_name tag.H3 = codes "h3"
tag_name tag.P = codes "p"
tag_name tag.Div = codes "div"
tag_name tag.Span = codes "span"
tag_name tag.Strong = codes "strong"
tag_name tag.Small = codes "small"
tag_name tag.Code = codes "code"
tag_name tag.Bdi = codes "bdi"
tag_name tag.Br = codes "br"
tag_name tag.A = codes "a"
tag_name tag.Ul = codes "ul"
tag_name tag.Ol = codes "ol"
tag_name tag.Li = codes "li"
tag_name tag.Dl = codes "dl"
tag_name tag.Dt = codes "dt"
tag_name tag.Dd = codes "dd"
tag_name tag.Table = codes "table"
tag_name tag.Caption = codes "caption"
tag_name tag.Thead = codes "thead"
tag_name tag.Tbody = codes "tbody"
tag_name tag.Tr = codes "tr"
tag_name tag.Th = codes "th"
tag_name tag.Td = codes "td"
tag_name tag.Details = codes "details"
tag_name tag.Summary = codes "summary"
tag_name tag.Input = codes "input"
tag_name tag.Label = codes "label"
tag_name tag.Fieldset = codes "fieldset"
tag_name tag.Legend = codes "legend"

-- an element that has no content, and so no end
abbrev pub is_void : Tag → Bool
is_void tag.Meta = true
is_void tag.Br = true
is_void tag.Input = true
is_void _ = false

-- How an attribute of this name begins, up to its value. A link leads to a place on the page itself, and a style says
-- how long a bar is, or in what order rows stand.
abbrev pub opening : Name → List ℕ
opening name.Class = codes " class=\""
opening name.Id = codes " id=\""
opening name.Lang = codes " lang=\""
opening name.Dir = codes " dir=\""
opening name.Title = codes " title=\""
opening name.Href = codes " href=\"#"
opening name.Share = codes " style=\"--share:"
opening name.Order = codes " style=\"--cost:"
opening name.Role = codes " role=\""
opening name.AriaLabel = codes " aria-label=\""
opening name.AriaLabelledby = codes " aria-labelledby=\""
opening name.AriaDescribedby = codes " aria-describedby=\""
opening name.AriaHidden = codes " aria-hidden=\""
opening name.AriaSort = codes " aria-sort=\""
opening name.Scope = codes " scope=\""
opening name.Colspan = codes " colspan=\""
opening name.Rowspan = codes " rowspan=\""
opening name.Charset = codes " charset=\""
opening name.Name = codes " name=\""
opening name.Content = codes " content=\""
opening name.HttpEquiv = codes " http-equiv=\""
opening name.Open = codes " open=\""
opening name.Type = codes " type=\""
opening name.For = codes " for=\""
opening name.Checked = codes " checked=\""
opening name.Value = codes " value=\""
opening name.Tabindex = codes " tabindex=\""
