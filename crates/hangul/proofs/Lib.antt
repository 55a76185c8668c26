pub mod Syllables
