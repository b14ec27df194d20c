-- The answer in a sentence, in each language.
use Rattle.std.specs.Prelude.{ℕ, List, codes, encode_utf8_all}
use Rattle.pb_words.specs.declared.language.Language.{Language}
use Rattle.pb_words.specs.declared.language.Language.TheVariants as language
use Rattle.pb_words.specs.declared.headlines.Headline.{Headline}
use Rattle.pb_words.specs.declared.headlines.Headline.TheVariants.{GroupFallsShort, NoGroupFallsShort, NoViolation, NotRefuted, NotSupported, Supported, SupportedStable, Unpriceable, UnpriceableUnderCover, Violation, NotRefutedStable, UnpriceableStable, UnpriceableStableUnderCover}

abbrev pub english : Headline → List ℕ
english Supported = encode_utf8_all (codes "The prices support this outcome")
english SupportedStable = encode_utf8_all (codes "The prices support this outcome in the stable form")
english NotSupported = encode_utf8_all (codes "The prices don’t support this outcome")
english Violation = encode_utf8_all (codes "This group was treated worse than it deserves")
english NoViolation = encode_utf8_all (codes "This certificate doesn’t prove unfair treatment")
english Unpriceable = encode_utf8_all (codes "No prices can support this outcome")
english UnpriceableUnderCover = encode_utf8_all (codes "No prices with budgets above the limit can support this outcome")
english UnpriceableStable = encode_utf8_all (codes "No stable prices can support this outcome")
english UnpriceableStableUnderCover = encode_utf8_all (codes "No stable prices with budgets above the limit can support this outcome")
english NotRefuted = encode_utf8_all (codes "This certificate doesn’t prove that no prices can support this outcome")
english NotRefutedStable = encode_utf8_all (codes "This certificate doesn’t prove that no stable prices can support this outcome")
english NoGroupFallsShort = encode_utf8_all (codes "No group of voters falls short")
english GroupFallsShort = encode_utf8_all (codes "A group of voters falls short")

abbrev pub polish : Headline → List ℕ
polish Supported = encode_utf8_all (codes "Ceny wspierają ten wynik")
polish SupportedStable = encode_utf8_all (codes "Ceny wspierają ten wynik w wersji stabilnej")
polish NotSupported = encode_utf8_all (codes "Ceny nie wspierają tego wyniku")
polish Violation = encode_utf8_all (codes "Tę grupę potraktowano gorzej, niż na to zasługuje")
polish NoViolation = encode_utf8_all (codes "Ten certyfikat nie dowodzi niesprawiedliwego potraktowania")
polish Unpriceable = encode_utf8_all (codes "Żadne ceny nie mogą wesprzeć tego wyniku")
polish UnpriceableUnderCover = encode_utf8_all (codes "Żadne ceny z budżetami większymi niż pula nie mogą wesprzeć tego wyniku")
polish UnpriceableStable = encode_utf8_all (codes "Żadne stabilne ceny nie mogą wesprzeć tego wyniku")
polish UnpriceableStableUnderCover = encode_utf8_all (codes "Żadne stabilne ceny z budżetami większymi niż pula nie mogą wesprzeć tego wyniku")
polish NotRefuted = encode_utf8_all (codes "Ten certyfikat nie dowodzi, że żadne ceny nie mogą wesprzeć tego wyniku")
polish NotRefutedStable = encode_utf8_all (codes "Ten certyfikat nie dowodzi, że żadne stabilne ceny nie mogą wesprzeć tego wyniku")
polish NoGroupFallsShort = encode_utf8_all (codes "Żadna grupa głosujących nie dostała za mało")
polish GroupFallsShort = encode_utf8_all (codes "Pewna grupa głosujących dostała za mało")

abbrev pub german : Headline → List ℕ
german Supported = encode_utf8_all (codes "Die Preise stützen dieses Ergebnis")
german SupportedStable = encode_utf8_all (codes "Die Preise stützen dieses Ergebnis in der stabilen Form")
german NotSupported = encode_utf8_all (codes "Die Preise stützen dieses Ergebnis nicht")
german Violation = encode_utf8_all (codes "Diese Gruppe wurde schlechter behandelt, als ihr zusteht")
german NoViolation = encode_utf8_all (codes "Eine ungerechte Behandlung ist damit nicht bewiesen")
german Unpriceable = encode_utf8_all (codes "Keine Preise können dieses Ergebnis stützen")
german UnpriceableUnderCover = encode_utf8_all (codes "Keine Preise mit Budgets über dem Gesamtbudget können dieses Ergebnis stützen")
german UnpriceableStable = encode_utf8_all (codes "Keine stabilen Preise können dieses Ergebnis stützen")
german UnpriceableStableUnderCover = encode_utf8_all (codes "Keine stabilen Preise mit Budgets über dem Gesamtbudget können dieses Ergebnis stützen")
german NotRefuted = encode_utf8_all (codes "Dass keine Preise dieses Ergebnis stützen können, ist damit nicht bewiesen")
german NotRefutedStable = encode_utf8_all (codes "Dass keine stabilen Preise dieses Ergebnis stützen können, ist damit nicht bewiesen")
german NoGroupFallsShort = encode_utf8_all (codes "Keine Gruppe von Abstimmenden kommt zu kurz")
german GroupFallsShort = encode_utf8_all (codes "Eine Gruppe von Abstimmenden kommt zu kurz")

abbrev pub french : Headline → List ℕ
french Supported = encode_utf8_all (codes "Les prix soutiennent ce résultat")
french SupportedStable = encode_utf8_all (codes "Les prix soutiennent ce résultat sous sa forme stable")
french NotSupported = encode_utf8_all (codes "Les prix ne soutiennent pas ce résultat")
french Violation = encode_utf8_all (codes "Ce groupe a été traité moins bien qu’il ne le mérite")
french NoViolation = encode_utf8_all (codes "Ce certificat ne prouve aucun traitement injuste")
french Unpriceable = encode_utf8_all (codes "Aucun prix ne peut soutenir ce résultat")
french UnpriceableUnderCover = encode_utf8_all (codes "Aucun prix dont les budgets dépassent l’enveloppe ne peut soutenir ce résultat")
french UnpriceableStable = encode_utf8_all (codes "Aucun prix stable ne peut soutenir ce résultat")
french UnpriceableStableUnderCover = encode_utf8_all (codes "Aucun prix stable dont les budgets dépassent l’enveloppe ne peut soutenir ce résultat")
french NotRefuted = encode_utf8_all (codes "Ce certificat ne prouve pas qu’aucun prix ne peut soutenir ce résultat")
french NotRefutedStable = encode_utf8_all (codes "Ce certificat ne prouve pas qu’aucun prix stable ne peut soutenir ce résultat")
french NoGroupFallsShort = encode_utf8_all (codes "Aucun groupe de votants n’est laissé pour compte")
french GroupFallsShort = encode_utf8_all (codes "Un groupe de votants est laissé pour compte")

-- what an answer says in a language, in UTF-8
abbrev pub headline_words : Language → Headline → List ℕ
headline_words language.English h = english h
headline_words language.Polish h = polish h
headline_words language.German h = german h
headline_words language.French h = french h
