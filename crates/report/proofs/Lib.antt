mod Matters
