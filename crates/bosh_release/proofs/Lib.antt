mod FitLemmas
mod PrintLemmas
mod SoundLemmas
mod TableLemmas
