use Rattle.pb_page.proofs.parts.files.push_given.Goals as goal

pub returns-in-Some : goal.returns-in-Some
returns-in-Some c texts has = rw c.in-Some.is (c.push_file.ensures texts has)
