-- Lemmas on the kit's clap, whatever the commands.
pub mod Building
pub mod Positionals
pub mod Faultless
pub mod Matches
